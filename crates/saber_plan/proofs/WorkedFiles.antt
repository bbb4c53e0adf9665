-- Worked files: which rows they have, and where they end.
use Rattle.std.specs.Prelude.{◌≡◌, ℕ, ◌^◌, List, [], ◌∷◌, codes, refl, pos}
use Rattle.saber_plan.specs.declared.rows.Side.TheVariants.{Left}
use Rattle.saber_plan.specs.declared.rows.RowCause.TheVariants.{TooManyLines, FieldCount, BadNumber, Range, TimeOrder, TooManyHeld}
use Rattle.saber_plan.specs.declared.rows.Row.{Row}
use Rattle.saber_plan.specs.Rows.{SideRules, most_held, rows, whole, cut, bad, all_read, lines_of, fields_of, judge, read_by}
use Rattle.saber_plan.proofs.Cases.{five_lines, left_of}

abbrev row : ℕ → ℕ → ℕ → Row
row t g v = record { side = Left; values = pos t ∷ pos g ∷ pos v ∷ [] }

-- no byte, no line
empty_file : rows (left_of 3) [] ≡ record { rows = []; end = all_read }
unfolding lines_of read_by
empty_file = refl

-- CR before LF, an empty line, and no LF at the end
other_line_ends : rows (left_of 3) (codes "0,1,10\r\n1,1,20\r\n\r\n2,2,5\r\n2,1,7\r\n9,2,1") ≡ rows (left_of 3) five_lines
unfolding lines_of fields_of judge read_by
other_line_ends = refl

-- a timestamp that falls
time_falls : (rows (left_of 3) (codes "0,1,10\n1,1,20\n0,1,1\n")).end ≡ bad Left 3 TimeOrder
unfolding lines_of fields_of judge read_by
time_falls = refl

-- and one that stands
time_stands : (rows (left_of 3) (codes "2,2,5\n2,1,7\n")).end ≡ all_read
unfolding lines_of fields_of judge read_by
time_stands = refl

few_fields : (rows (left_of 3) (codes "1,2\n")).end ≡ bad Left 1 FieldCount
unfolding lines_of fields_of judge read_by
few_fields = refl

no_number : (rows (left_of 3) (codes "1,2,x\n")).end ≡ bad Left 1 (BadNumber 3)
unfolding lines_of fields_of judge read_by
no_number = refl

out_of_range : (rows (left_of 3) (codes "1,2,9223372036854775808\n")).end ≡ bad Left 1 (Range 3)
unfolding lines_of fields_of judge read_by
out_of_range = refl

-- a third line, where two are the limit
third_line : (rows (record { side = Left; columns = 3; most = 2; slack = 0; room = 0 }) five_lines).end ≡ bad Left 3 TooManyLines
unfolding lines_of fields_of judge read_by
third_line = refl

-- the whole lines of a file that goes on
file_goes_on : whole (left_of 3) (codes "0,1,10\n1,1") ≡ record { rows = record { side = Left; values = pos 0 ∷ pos 1 ∷ pos 10 ∷ [] } ∷ []; end = cut }
unfolding lines_of fields_of judge read_by
file_goes_on = refl

-- ---- rows that come late

-- by up to one, and up to so many that wait
abbrev slack_one : ℕ → SideRules
slack_one room = record { side = Left; columns = 3; most = 2 ^ 40; slack = 1; room = room }

abbrev late_lines : List ℕ
late_lines = codes "0,1,10\n2,2,5\n1,1,20\n2,1,7\n9,2,1\n"

-- the five rows in order
late_rows : rows (slack_one most_held) late_lines ≡ rows (left_of 3) five_lines
unfolding lines_of fields_of judge read_by
late_rows = refl

-- without slack the third line is late
no_slack : (rows (left_of 3) late_lines).end ≡ bad Left 3 TimeOrder
unfolding lines_of fields_of judge read_by
no_slack = refl

-- a row that is late by more than the slack: before it stand the two rows that wait
too_late : rows (slack_one most_held) (codes "0,1,10\n2,2,5\n0,1,1") ≡ record { rows = row 0 1 10 ∷ row 2 2 5 ∷ []; end = bad Left 3 TimeOrder }
unfolding lines_of fields_of judge read_by
too_late = refl

-- two rows may wait: the third line of one timestamp is one too many
too_many : rows (slack_one 2) (codes "0,1,1\n0,1,1\n0,1,1") ≡ record { rows = row 0 1 1 ∷ row 0 1 1 ∷ []; end = bad Left 3 TooManyHeld }
unfolding lines_of fields_of judge read_by
too_many = refl

-- not so where it raises the greatest timestamp, so that the others are due
many_due : (rows (slack_one 2) (codes "0,1,1\n0,1,1\n1,1,1")).end ≡ all_read
unfolding lines_of fields_of judge read_by
many_due = refl

-- and without slack no row waits
none_wait : (rows (record { side = Left; columns = 3; most = 9; slack = 0; room = 0 }) (codes "0,1,1\n0,1,1\n0,1,1")).end ≡ all_read
unfolding lines_of fields_of judge read_by
none_wait = refl

-- of a file that goes on the rows that are due
due_rows : whole (slack_one most_held) (codes "0,1,10\n2,2,5\n1,1,20\n2,1,7\n3,1,") ≡ record { rows = row 0 1 10 ∷ row 1 1 20 ∷ []; end = cut }
unfolding lines_of fields_of judge read_by
due_rows = refl

-- one behind whose rows a line is refused has all of them
refused_rows : whole (slack_one most_held) (codes "0,1,10\n2,2,5\n1,1,20\n1\n") ≡ record { rows = row 0 1 10 ∷ row 1 1 20 ∷ row 2 2 5 ∷ []; end = bad Left 4 FieldCount }
unfolding lines_of fields_of judge read_by
refused_rows = refl

-- rows of one timestamp come in order of their lines
stable_rows : (rows (slack_one most_held) (codes "1,1,1\n0,1,2\n1,1,3\n0,1,4\n")).rows ≡ row 0 1 2 ∷ row 0 1 4 ∷ row 1 1 1 ∷ row 1 1 3 ∷ []
unfolding lines_of fields_of judge read_by
stable_rows = refl
