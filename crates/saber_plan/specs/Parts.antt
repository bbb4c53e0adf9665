-- The parts of windows, and their merge.
use Rattle.std.specs.Prelude.{ℕ, ◌+◌, max, List, [], ◌∷◌, map, filter, fold, length, nat_le, nat_abs, Bool, true, false, if◌then◌else◌, ℤ}
use Rattle.std.specs.FinMap.{FinMap, empty, entries, from_entries}
use Rattle.saber_plan.specs.declared.rows.Row.{Row}
use Rattle.saber_plan.specs.declared.plans.Fold.{Fold}
use Rattle.saber_plan.specs.declared.plans.Fold.TheVariants.{Sum, Min, Max, First}
use Rattle.saber_plan.specs.declared.plans.Aggregate.{Aggregate}
use Rattle.saber_plan.specs.declared.plans.Shape.{Shape}
use Rattle.saber_plan.specs.declared.expressions.Product.{Product}
use Rattle.saber_plan.specs.Trees.{Tree}
use Rattle.saber_plan.specs.Windows.{Placed, inside}
use Rattle.saber_plan.specs.Answers.{Entry, Answers, key_cmp, key, passing_values, picked_rows, pairs, pair_answers, row_answers, aggregate, step, group_row, items_over, rows_of_key, entry_lines, by_shape, frame}
use Rattle.saber_plan.specs.Merges.{both}

-- ---- numbers

-- an aggregate over some rows, and how it goes on over later ones
pub record Number : Type 0 where
  pub fold : Fold
  pub value : ℤ

-- how many rows, and the aggregates over them
pub record Numbers : Type 0 where
  pub count : ℕ
  pub values : List Number

-- the numbers of some rows
abbrev pub numbers : List Aggregate → List (List ℤ) → Numbers
numbers gs rows = record { count = length rows; values = map (λ g. record { fold = g.fold; value = aggregate rows g }) gs }

-- those of a pair or of a row by itself, which no other rows change: the items over it
abbrev pub numbers_of_one : List ℤ → Numbers
numbers_of_one zs = record { count = 1; values = map (λ z. record { fold = First; value = z }) zs }

abbrev pub pair_numbers : Tree → Placed → Placed → Numbers
pair_numbers q x y = numbers_of_one (pair_answers q x y)

abbrev pub row_numbers : Tree → Placed → Numbers
row_numbers q x = numbers_of_one (row_answers q x)

abbrev pub same_fold : Fold → Fold → Bool
same_fold Sum Sum = true
same_fold Min Min = true
same_fold Max Max = true
same_fold First First = true
same_fold _ _ = false

-- aggregates, and those of later rows: as far as they are alike, which those of one query are
abbrev pub join_values : List Number → List Number → List Number
join_values [] ys = []
join_values (x ∷ xs) [] = []
join_values (x ∷ xs) (y ∷ ys) =
    if same_fold x.fold y.fold then record { fold = x.fold; value = step x.fold x.value y.value } ∷ join_values xs ys else []

-- numbers, and those of later rows
abbrev pub join_numbers : Numbers → Numbers → Numbers
join_numbers a b = record { count = a.count + b.count; values = join_values a.values b.values }

-- the answers to items, of what has a key
abbrev pub answers_of : Shape → List (List Product) → List ℤ → Numbers → List ℤ
answers_of s is k a =
    let zs = map (λ v. v.value) a.values in
    by_shape s zs (items_over is (group_row k a.count zs) []) zs

-- ---- parts

-- From key lists to numbers. A pair's key is its two positions, and that of a row by itself its position.
abbrev pub Part : Type 0
Part = FinMap key_cmp Numbers

abbrev pub no_part : Part
no_part = empty

-- each key of the rows with the numbers of its rows
unfoldable pub group_part : Tree → List (List ℤ) → Part
group_part q rows = from_entries (map (λ k. (k, numbers q.aggregates (rows_of_key q.keys k rows))) (map (key q.keys) rows))

-- each row that passes, at its position
unfoldable pub row_part : Tree → List Placed → Part
row_part q xs = from_entries (picked_rows q (row_numbers q) xs)

abbrev pub group_answer : Shape → List (List Product) → List ℤ × Numbers → Entry
group_answer s is e = (e.0, answers_of s is e.0 e.1)

-- the lines of a part, as those of window i
abbrev pub answers_in : Tree → Part → List Entry
answers_in q p = map (group_answer q.shape q.items) (entries p)

-- without the window's number
abbrev pub part_answers : Tree → Part → Answers
part_answers q p = map (λ e. e.1) (answers_in q p)

abbrev pub part_lines : Tree → ℕ → Part → List ℕ
part_lines q i p = entry_lines i (answers_in q p)

-- the greater of a pair's positions
abbrev pub later : List ℤ → ℕ
later k = fold (λ n z. max n (nat_abs z)) 0 k

-- the pairs whose later row stands at position x or after it
unfoldable pub pair_part : Tree → ℕ → List Placed → Part
pair_part q x xs = from_entries (filter (λ e. nat_le x (later e.0)) (pairs q (pair_numbers q) xs))

-- the part of window i over positions x up to y
abbrev pub part : Tree → ℕ → List Row → ℕ → ℕ → Part
part q i xs x y = by_shape q.shape
    (row_part q (inside (frame q) i xs x y))
    (group_part q (passing_values q (inside (frame q) i xs x y)))
    (pair_part q x (inside (frame q) i xs 0 y))

-- ---- the merge

abbrev pub merge : Part → Part → Part
merge a b = both join_numbers a b
