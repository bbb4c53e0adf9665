use Rattle.std.proofs.Common.{ap}
use Rattle.std.proofs.lemmas.Result.{IfOk-weaker}
use Rattle.clap.specs.Simple.{App, new_app}
use Rattle.saber_words.proofs.table.subcommand.Goals as goal

pub returns : goal.returns
returns c =
    IfOk-weaker c.with_arguments.result _ _ (λ app is. (ap (λ (a : App). a.top) is.0, is.1)) (c.with_arguments.ensures (new_app c.args.name.now) (c.new.ensures.app, c.new.ensures.local))
