-- Parts of one group, without a key.
use Rattle.std.specs.Prelude.{◌≡◌, ℕ, ℤ, List, [], ◌∷◌, ◌++◌, length, Bool, true, false, Option, None, Some, refl}
use Rattle.std.specs.Coded.{Coded, code_by, coded×, coded_list}
use Rattle.saber_plan.specs.Codes.{coded_part}
use Rattle.std.specs.FinMap.{get}
use Rattle.std.specs.List.{AllByRecursion}
use Rattle.saber_plan.specs.Trees.{Tree}
use Rattle.saber_plan.specs.Parts.{Part, Numbers, no_part, merge}
use Rattle.saber_partial.specs.PartLaws.{OfRows}
use Rattle.saber_partial.specs.Sorted.{alone}

-- one group, under the empty key
abbrev pub IsOne : Part → Type 0
IsOne p = (a : Numbers) × (p ≡ alone ([], a))

-- no group but under the empty key
abbrev pub AreKeyless : Part → Type 0
AreKeyless p = (k : List ℤ) (a : Numbers) → get p k ≡ Some a → k ≡ []

-- parts of one query, of whatever rows
abbrev pub AreOf : Tree → List Part → Type 0
AreOf q ps = (n : ℕ) × AllByRecursion (OfRows q n) ps

abbrev pub last_part : List Part → Part
last_part [] = no_part
last_part (p ∷ []) = p
last_part (p ∷ r ∷ ps) = last_part (r ∷ ps)

-- the last of them with a part behind it
abbrev pub joined_last : Part → List Part → List Part
joined_last q [] = []
joined_last q (p ∷ []) = merge p q ∷ []
joined_last q (p ∷ r ∷ ps) = p ∷ joined_last q (r ∷ ps)

-- ---- parts in the making

-- those that are done, and the one that rows come to
pub record Making : Type 0 where
  pub done : List Part
  pub last : Part

abbrev pub coded_making : Coded Making
coded_making = code_by (List Part × Part) (coded× (coded_list coded_part) coded_part) (λ m. (m.done, m.last)) (λ p. record { done = p.0; last = p.1 }) (λ _. refl)

abbrev pub before_last : List Part → List Part
before_last [] = []
before_last (p ∷ []) = []
before_last (p ∷ r ∷ ps) = p ∷ before_last (r ∷ ps)

abbrev pub making_of : Bool → List Part → Making
making_of true ps = record { done = before_last ps; last = last_part ps }
making_of false ps = record { done = ps; last = no_part }

-- the last one is done: it stands behind those that were, if it has a row
abbrev pub IsAt : Making → Option ℕ → List Part → Type 0
IsAt m None ps = (m.last ≡ no_part) × (ps ≡ m.done)
IsAt m (Some i) ps = (i ≡ length m.done) × (ps ≡ m.done ++ m.last ∷ [])
