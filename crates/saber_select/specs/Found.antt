-- The rows found of a window, and the part that they are.
use Rattle.std.specs.Prelude.{ℕ, suc, ◌<◌, ◌≤◌, List, [], ◌∷◌, map, filter, flat_map, ℤ, pos}
use Rattle.std.specs.List.{AllByRecursion}
use Rattle.std.specs.FinMap.{from_entries}
use Rattle.saber_plan.specs.Trees.{Tree}
use Rattle.saber_plan.specs.Values.{passes}
use Rattle.saber_plan.specs.Windows.{Placed, place}
use Rattle.saber_plan.specs.Answers.{key_cmp, line, row_answers}
use Rattle.saber_plan.specs.Parts.{Part, Numbers, numbers_of_one}

-- a row's position among all rows, and the values of the items over it
abbrev pub Found : Type 0
Found = ℕ × List ℤ

abbrev pub found_row : Tree → Placed → Found
found_row q x = (place x, row_answers q x)

-- those of the rows that pass
abbrev pub found_of : Tree → List Placed → List Found
found_of q xs = map (found_row q) (filter (λ x. passes q.predicate x.row.values []) xs)

-- ---- positions

abbrev pub AllBelow : ℕ → List Found → Type 0
AllBelow n es = AllByRecursion (λ (e : Found). e.0 < n) es

abbrev pub AllFrom : ℕ → List Found → Type 0
AllFrom n es = AllByRecursion (λ (e : Found). n ≤ e.0) es

-- each row stands behind those before it
abbrev pub Rises : List Found → Type 0
Rises [] = Unit {0}
Rises (e ∷ es) = AllFrom (suc e.0) es × Rises es

-- and each of some rows behind all of others
pub record Precedes (a b : List Found) : Type 0 where
  pub seam : ℕ
  pub before : AllBelow seam a
  pub behind : AllFrom seam b

-- ---- the part that they are

abbrev pub entry_of : Found → List ℤ × Numbers
entry_of e = (pos e.0 ∷ [], numbers_of_one e.1)

abbrev pub part_of : List Found → Part
part_of es = from_entries {R = key_cmp} (map entry_of es)

-- ---- what is printed of them

-- the values, in the order of the rows
abbrev pub values_in : List Found → List (List ℤ)
values_in es = map (λ e. e.1) es

-- a line for each
abbrev pub lines_for : ℕ → List (List ℤ) → List ℕ
lines_for i vs = flat_map (λ zs. line (pos i ∷ zs)) vs
