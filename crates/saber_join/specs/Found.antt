-- The pairs found of a window: entries of a tree map, and the part that they are.
use Rattle.std.specs.Prelude.{◌≡◌, ℕ, List, ◌∷◌, flat_map, map, Vec, ℤ, pos, Some, None}
use Rattle.std.proofs.Common.{Global}
use Rattle.std.specs.FinMap.{get, entries, from_entries}
use Rattle.saber_plan.specs.Answers.{key_cmp, line}
use Rattle.saber_plan.specs.Parts.{Part, Numbers, numbers_of_one}

-- what entries of a tree map are
abbrev pub seen_entries : List (List ℤ × Vec ℤ Global) → List (List ℤ × Numbers)
seen_entries es = map (λ e. (e.0, numbers_of_one e.1.items)) es

abbrev pub seen_pairs : List (List ℤ × Vec ℤ Global) → Part
seen_pairs es = from_entries {R = key_cmp} (seen_entries es)

-- no pair is in both
pub record Apart (a b : Part) : Type 0 where
  pub at : (k : List ℤ) (v : Numbers) → get b k ≡ Some v → get a k ≡ None

-- a line for each pair's values
abbrev pub lines_for : ℕ → List (List ℤ) → List ℕ
lines_for i vs = flat_map (λ zs. line (pos i ∷ zs)) vs

-- the values of each pair, in the order of the pairs
abbrev pub values_in : Part → List (List ℤ)
values_in p = map (λ e. map (λ v. v.value) e.1.values) (entries p)

abbrev pub pair_lines : ℕ → Part → List ℕ
pair_lines i p = lines_for i (values_in p)
