use Rattle.std.proofs.Common.{IfOk, List, [], ◌∷◌, codes, subst}
use Rattle.clap.specs.Walk.{Rule}
use Rattle.clap.specs.Simple.{Shape}
use Rattle.saber_words.specs.Commands.{optional, required_rule}
use Rattle.saber_words.specs.Table.{HasShape}
use Rattle.saber_words.proofs.Apps.{same_five, with_five}
use Rattle.saber_words.proofs.chain.chain_app.Goals as goal

pub returns : goal.returns
returns c =
    let front : List Rule = required_rule (codes "first") ∷ required_rule (codes "second") ∷ required_rule (codes "left") ∷ optional (codes "right") ∷ [] in
    let same = same_five (with_five (codes "chain") front []) c.task.ensures c.ring.ensures c.threads.ensures c.max_lines.ensures c.slack.ensures in
    subst (λ (s : Shape). IfOk c.subcommand.result (HasShape s)) same (rw c.as_slice.ensures at c.subcommand.ensures)
