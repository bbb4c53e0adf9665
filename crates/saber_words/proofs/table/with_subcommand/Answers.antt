use Rattle.std.proofs.lemmas.Result.{IfOk-at_ok, IfOk-weaker}
use Rattle.saber_words.specs.Table.{HasShape}
use Rattle.saber_words.proofs.Apps.{app_with_subcommand}
use Rattle.saber_words.proofs.table.with_subcommand.Goals as goal

pub returns : goal.returns
returns c = λ s is.
    let made : HasShape s c.in_ok-sub.sub = IfOk-at_ok (HasShape s) c.in_ok-sub.was is in
    IfOk-weaker c.subcommand.result _ _ (λ app added. app_with_subcommand c.args.app c.in_ok-sub.sub app s added made) c.subcommand.ensures
