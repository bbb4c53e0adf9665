-- What the check of a text comes to.
use Rattle.std.specs.Prelude.{◌≡◌, ℕ, List, [], take}
use Rattle.saber_notes.specs.declared.outcome.Outcome.{Outcome}
use Rattle.saber_notes.specs.declared.outcome.Outcome.TheVariants.{Done, WriteFault}
use Rattle.saber_cli.specs.Due.{Shows}
use Rattle.saber_cli.specs.Planned.{IsTextFault}

-- the text of a query goes out whole, or a prefix of it where the sink fails; nothing goes out where the text is refused, or memory lacks
pub data Showed (text : List ℕ) (o : Outcome) (out : List ℕ) : Type 0 where
  all_shown : o ≡ Done → Shows text out → Showed text o out
  cut_short : (shown : List ℕ) (n : ℕ) → o ≡ WriteFault → Shows text shown → out ≡ take n shown → Showed text o out
  not_shown : IsTextFault text o → out ≡ [] → Showed text o out
