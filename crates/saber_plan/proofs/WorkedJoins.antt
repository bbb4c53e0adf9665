-- Worked merges of two files, and answers of joins.
use Rattle.std.specs.Prelude.{◌≡◌, ℕ, List, [], ◌∷◌, codes, refl, pos}
use Rattle.std.specs.Fmt.{digits}
use Rattle.saber_plan.specs.declared.rows.Side.TheVariants.{Left, Right}
use Rattle.saber_plan.specs.declared.rows.Row.{Row}
use Rattle.saber_plan.specs.declared.rows.RowCause.TheVariants.{FieldCount, BadNumber}
use Rattle.saber_plan.specs.declared.windows.Measure.TheVariants as measures
use Rattle.saber_plan.specs.Rows.{Read, rows, whole, cut, bad, all_read, lines_of, fields_of, judge, read_by}
use Rattle.saber_plan.specs.Inputs.{input, going_on, merged_rows}
use Rattle.saber_plan.specs.Values.{value_at, test_holds, all_hold, some_holds}
use Rattle.saber_plan.specs.Windows.{placed_after, from}
use Rattle.saber_plan.specs.Answers.{with_key, keys_of, lines, text}
use Rattle.saber_plan.proofs.Cases.{left_of, right_of, joining}

abbrev left_row : ℕ → ℕ → Row
left_row t x = record { side = Left; values = pos t ∷ pos x ∷ [] }

abbrev right_row : ℕ → ℕ → Row
right_row t y = record { side = Right; values = pos t ∷ pos y ∷ [] }

abbrev left_lines : List ℕ
left_lines = codes "0,5\n1,9\n4,1\n"

abbrev right_lines : List ℕ
right_lines = codes "0,7\n3,6\n8,0\n"

abbrev two_files : List ℕ → List ℕ → Read
two_files l r = input (rows (left_of 2) l ∷ rows (right_of 2) r ∷ [])

-- by timestamp, the left first on a tie
merged : two_files left_lines right_lines ≡ record { rows = left_row 0 5 ∷ right_row 0 7 ∷ left_row 1 9 ∷ right_row 3 6 ∷ left_row 4 1 ∷ right_row 8 0 ∷ []; end = all_read }
unfolding lines_of fields_of judge read_by merged_rows
merged = refl

pairs_by_time : text (joining measures.Range 4 4 4) (going_on (two_files left_lines right_lines).rows) ≡ codes "0,5,7\n0,5,6\n"
unfolding lines_of fields_of judge read_by value_at placed_after from with_key keys_of lines text digits test_holds all_hold some_holds merged_rows
pairs_by_time = refl

-- window 1 lacks a left row
pairs_by_rows : text (joining measures.Rows 2 1 2) (going_on (two_files left_lines right_lines).rows) ≡ codes "0,5,7\n"
unfolding lines_of fields_of judge read_by value_at placed_after from with_key keys_of lines text digits test_holds all_hold some_holds merged_rows
pairs_by_rows = refl

-- a right line that is refused stops the merge before an earlier left row
right_stops : two_files left_lines (codes "0,7\n3\n") ≡ record { rows = left_row 0 5 ∷ right_row 0 7 ∷ []; end = bad Right 2 FieldCount }
unfolding lines_of fields_of judge read_by merged_rows
right_stops = refl

-- so does a left one, though a right row waits
left_stops : two_files (codes "0,5\n1\n") right_lines ≡ record { rows = left_row 0 5 ∷ []; end = bad Left 2 FieldCount }
unfolding lines_of fields_of judge read_by merged_rows
left_stops = refl

-- where both heads are refused, the left is asked first
both_stop : two_files (codes "x,5\n") (codes "3\n") ≡ record { rows = []; end = bad Left 1 (BadNumber 1) }
unfolding lines_of fields_of judge read_by merged_rows
both_stop = refl

-- over the whole lines of a left file that goes on, the right's later rows are not known to be next
left_goes_on : input (whole (left_of 2) (codes "0,5\n1,9") ∷ whole (right_of 2) right_lines ∷ []) ≡ record { rows = left_row 0 5 ∷ []; end = cut }
unfolding lines_of fields_of judge read_by merged_rows
left_goes_on = refl
