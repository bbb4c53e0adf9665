-- Parts that follow one another.
use Rattle.std.specs.Prelude.{ℕ, List, [], ◌∷◌, refl}
use Rattle.std.specs.Coded.{Coded, code_by, coded×, coded_ℕ}
use Rattle.saber_plan.specs.Parts.{Part, no_part, merge}
use Rattle.saber_plan.specs.Codes.{coded_part}
use Rattle.saber_partial.specs.Tallies.{CanMerge}

-- the merge of all of them
abbrev pub piled_part : List Part → Part
piled_part [] = no_part
piled_part (p ∷ ps) = merge p (piled_part ps)

-- each can take in those behind it
abbrev pub CanPile : List Part → Type 0
CanPile [] = Unit {0}
CanPile (p ∷ ps) = CanMerge p (piled_part ps) × CanPile ps

-- a part, and in how many pieces it lies
pub record Pile : Type 0 where
  pub part : Part
  pub pieces : ℕ

abbrev pub coded_pile : Coded Pile
coded_pile = code_by (Part × ℕ) (coded× coded_part coded_ℕ) (λ p. (p.part, p.pieces)) (λ p. record { part = p.0; pieces = p.1 }) (λ _. refl)
