-- Worked needs: which windows rows lie in, how far back tasks look, and one more row of a join.
use Rattle.std.specs.Prelude.{◌≡◌, List, [], ◌∷◌, map, filter, Some, None, codes, refl, ℤ, pos}
use Rattle.saber_plan.specs.declared.windows.Measure.TheVariants as measures
use Rattle.saber_plan.specs.declared.rows.Row.{Row}
use Rattle.saber_plan.specs.declared.windows.Mark.{Mark}
use Rattle.saber_plan.specs.Trees.{Tree}
use Rattle.saber_plan.specs.Rows.{rows, lines_of, fields_of, judge, read_by}
use Rattle.saber_plan.specs.Inputs.{input, going_on, merged_rows}
use Rattle.saber_plan.specs.Values.{value_at, test_holds, all_hold, some_holds}
use Rattle.saber_plan.specs.Windows.{Placed, one, placed_after, placed_from_start, from, kind_of, no_rows}
use Rattle.saber_plan.specs.Answers.{frame, is_left}
use Rattle.saber_plan.specs.Needs.{first_window, past_window, last_window, first_open, free, need, wide, block_lasts, free_of, is_closing, is_pending, is_opening}
use Rattle.saber_plan.specs.Pairing.{row_pairs}
use Rattle.saber_plan.proofs.Cases.{left_of, right_of, joining, five_lines, rows_in, sums_by_group}

-- left rows at times 0, 1, 4 and right rows at 0, 3, 8, merged: left 0, right 0, left 1, right 3, left 4, right 8
abbrev merged : List Row
merged = (input (rows (left_of 2) (codes "0,5\n1,9\n4,1\n") ∷ rows (right_of 2) (codes "0,7\n3,6\n8,0\n") ∷ [])).rows

-- windows of four times, side by side
abbrev by_time : Tree
by_time = joining measures.Range 4 4 4

-- two left rows and one right row of each two
abbrev by_rows : Tree
by_rows = joining measures.Rows 2 1 2

first_by_time : map (first_window (frame by_time)) (placed_from_start merged) ≡ 0 ∷ 0 ∷ 0 ∷ 0 ∷ 1 ∷ 2 ∷ []
unfolding lines_of fields_of judge read_by merged_rows placed_after
first_by_time = refl

past_by_time : map (past_window (frame by_time)) (placed_from_start merged) ≡ 1 ∷ 1 ∷ 1 ∷ 1 ∷ 2 ∷ 3 ∷ []
unfolding lines_of fields_of judge read_by merged_rows placed_after
past_by_time = refl

-- the second right row lies in no window
last_by_rows : map (last_window (frame by_rows)) (placed_from_start merged) ≡ Some 0 ∷ Some 0 ∷ Some 0 ∷ None ∷ Some 1 ∷ Some 1 ∷ []
unfolding lines_of fields_of judge read_by merged_rows placed_after
last_by_rows = refl

-- tasks of one row look back to the first row while window 0 is open, and then to the first row of a later one
free_by_time : map (free by_time 1 (going_on merged)) (from 0 7) ≡ 0 ∷ 0 ∷ 0 ∷ 0 ∷ 0 ∷ 4 ∷ 5 ∷ []
unfolding lines_of fields_of judge read_by merged_rows placed_after from first_open
free_by_time = refl

-- where no window is open there is nothing to look back to
free_by_rows : map (free by_rows 1 (going_on merged)) (from 0 7) ≡ 0 ∷ 0 ∷ 0 ∷ 3 ∷ 4 ∷ 4 ∷ 4 ∷ []
unfolding lines_of fields_of judge read_by merged_rows placed_after from first_open
free_by_rows = refl

-- a query over one stream looks back on no row
free_of_groups : map (free sums_by_group 2 (going_on (rows_in five_lines))) (from 0 4) ≡ 0 ∷ 1 ∷ 2 ∷ 3 ∷ []
unfolding lines_of fields_of judge read_by from
free_of_groups = refl

-- a ring of five blocks holds each need, and one of four does not hold that of task 4
most_needed : need by_time 1 (going_on merged) 4 ≡ 5
unfolding lines_of fields_of judge read_by merged_rows placed_after from first_open
most_needed = refl

five_are_enough : wide by_time 1 (going_on merged) 5 ≡ None
unfolding lines_of fields_of judge read_by merged_rows placed_after from first_open
five_are_enough = refl

four_are_not : wide by_time 1 (going_on merged) 4 ≡ Some 4
unfolding lines_of fields_of judge read_by merged_rows placed_after from first_open
four_are_not = refl

-- blocks of two rows, by their greatest last windows
lasts_by_rows : block_lasts (frame by_rows) 2 (going_on merged) 0 3 ≡ Some 0 ∷ Some 0 ∷ Some 1 ∷ []
unfolding lines_of fields_of judge read_by merged_rows placed_after from
lasts_by_rows = refl

first_block_open : free_of 0 (Some 0 ∷ None ∷ Some 2 ∷ []) 1 ≡ 2
unfolding free_of
first_block_open = refl

no_block_open : free_of 4 (Some 0 ∷ None ∷ []) 1 ≡ 6
unfolding free_of
no_block_open = refl

-- windows 0 to 4 of three rows, each a row further, for the rows at positions 2 and 3
abbrev two_left : Mark
two_left = record no_rows { left = 2 }

abbrev four_left : Mark
four_left = record no_rows { left = 4 }

closing : filter (λ i. is_closing (kind_of (one measures.Rows 1 3) i two_left four_left)) (from 0 5) ≡ 0 ∷ 1 ∷ []
unfolding from
closing = refl

opening : filter (λ i. is_opening (kind_of (one measures.Rows 1 3) i two_left four_left)) (from 0 5) ≡ 2 ∷ 3 ∷ []
unfolding from
opening = refl

-- and of five rows
pending : filter (λ i. is_pending (kind_of (one measures.Rows 1 5) i two_left four_left)) (from 0 5) ≡ 0 ∷ 1 ∷ []
unfolding from
pending = refl

-- right row 6 goes with left row 5 and not with left row 9
abbrev keys_of_pairs : Placed → List Placed → List (List ℤ)
keys_of_pairs x before = map (λ e. e.0) (row_pairs by_time x (filter is_left before) [])

abbrev pairs_of_fourth : List Placed → List (List ℤ)
pairs_of_fourth (a ∷ b ∷ c ∷ d ∷ xs) = keys_of_pairs d (a ∷ b ∷ c ∷ [])
pairs_of_fourth xs = []

one_more_row : pairs_of_fourth (placed_from_start merged) ≡ (pos 0 ∷ pos 3 ∷ []) ∷ []
unfolding lines_of fields_of judge read_by merged_rows placed_after value_at test_holds all_hold some_holds
one_more_row = refl
