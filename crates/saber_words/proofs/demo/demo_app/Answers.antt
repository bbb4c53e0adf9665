use Rattle.std.proofs.Common.{IfOk, [], ◌∷◌, codes, subst}
use Rattle.clap.specs.Simple.{Shape, new_shape}
use Rattle.saber_words.specs.Numbers.{Numeric, number_rule}
use Rattle.saber_words.specs.Demo.{positional_rule}
use Rattle.saber_words.specs.Table.{HasShape}
use Rattle.saber_words.proofs.Apps.{same_five}
use Rattle.saber_words.proofs.demo.demo_app.Goals as goal

-- the subcommand with these numbers
abbrev demo_with : Numeric → Numeric → Numeric → Numeric → Numeric → Shape
demo_with a b c d e = record (new_shape (codes "demo")) { rules = positional_rule a ∷ positional_rule b ∷ number_rule c ∷ number_rule d ∷ number_rule e ∷ [] }

pub returns : goal.returns
returns c =
    let same = same_five demo_with c.seed.ensures c.rows.ensures c.task.ensures c.ring.ensures c.threads.ensures in
    subst (λ (s : Shape). IfOk c.subcommand.result (HasShape s)) same (rw c.as_slice.ensures at c.subcommand.ensures)
