-- Worked answers of queries over one stream.
use Rattle.std.specs.Prelude.{◌≡◌, [], ◌∷◌, true, false, Some, None, codes, refl, pos}
use Rattle.std.specs.Fmt.{digits}
use Rattle.saber_plan.specs.declared.plans.Fold.TheVariants.{Sum, Min, Max}
use Rattle.saber_plan.specs.declared.plans.Shape.TheVariants.{Select}
use Rattle.saber_plan.specs.declared.expressions.Factor.TheVariants.{Column, Constant}
use Rattle.saber_plan.specs.declared.rows.Side.TheVariants.{Left}
use Rattle.saber_plan.specs.declared.windows.Measure.TheVariants as measures
use Rattle.saber_plan.specs.Rows.{lines_of, fields_of, judge, read_by}
use Rattle.saber_plan.specs.Inputs.{going_on}
use Rattle.saber_plan.specs.Values.{value_at, test_holds, all_hold, some_holds}
use Rattle.saber_plan.specs.Windows.{placed_after, from}
use Rattle.saber_plan.specs.Checked.{lone}
use Rattle.saber_plan.specs.Answers.{with_key, keys_of, lines, text}
use Rattle.saber_plan.proofs.Cases.{five_lines, rows_in, over, grouped, counted, sums_by_group, above}

-- the last row is in no closed window
windows_side_by_side : text (counted measures.Rows 2 2) (going_on (rows_in five_lines)) ≡ codes "0,2\n1,2\n"
unfolding lines_of fields_of judge read_by value_at placed_after from with_key keys_of lines text digits
windows_side_by_side = refl

windows_that_overlap : text (counted measures.Rows 2 1) (going_on (rows_in five_lines)) ≡ codes "0,2\n1,2\n2,2\n3,2\n"
unfolding lines_of fields_of judge read_by value_at placed_after from with_key keys_of lines text digits
windows_that_overlap = refl

windows_with_gaps : text (counted measures.Rows 1 3) (going_on (rows_in five_lines)) ≡ codes "0,1\n1,1\n"
unfolding lines_of fields_of judge read_by value_at placed_after from with_key keys_of lines text digits
windows_with_gaps = refl

groups_rise : text sums_by_group (going_on (rows_in five_lines)) ≡ codes "0,1,30\n0,2,5\n1,1,27\n1,2,5\n2,1,7\n2,2,6\n"
unfolding lines_of fields_of judge read_by value_at placed_after from with_key keys_of lines text digits
groups_rise = refl

-- windows 2 and 3 close empty and print nothing
empty_windows : text (counted measures.Range 3 2) (going_on (rows_in five_lines)) ≡ codes "0,4\n1,2\n"
unfolding lines_of fields_of judge read_by value_at placed_after from with_key keys_of lines text digits
empty_windows = refl

least_and_greatest : text (grouped measures.Range 3 2 [] (over Min 2 ∷ over Max 2 ∷ []) (1 ∷ 2 ∷ 0 ∷ [])) (going_on (rows_in five_lines)) ≡ codes "0,5,20,4\n1,5,7,2\n"
unfolding lines_of fields_of judge read_by value_at placed_after from with_key keys_of lines text digits
least_and_greatest = refl

before_a_refused_line : text (counted measures.Rows 2 2) (going_on (rows_in (codes "0,1,10\n1,1,20\n0,1,1\n"))) ≡ codes "0,2\n"
unfolding lines_of fields_of judge read_by value_at placed_after from with_key keys_of lines text digits
before_a_refused_line = refl

sum_past_64_bits : text (grouped measures.Rows 2 2 [] (over Sum 2 ∷ []) (1 ∷ [])) (going_on (rows_in (codes "0,1,-9223372036854775808\n0,1,-9223372036854775808\n"))) ≡ codes "0,-18446744073709551616\n"
unfolding lines_of fields_of judge read_by value_at placed_after from with_key keys_of lines text digits
sum_past_64_bits = refl

-- ROWS counts rows that WHERE drops
window_before_filter : text (record (counted measures.Rows 2 2) { predicate = Some (above 5) }) (going_on (rows_in five_lines)) ≡ codes "0,2\n1,1\n"
unfolding lines_of fields_of judge read_by value_at placed_after from with_key keys_of lines text digits test_holds all_hold some_holds
window_before_filter = refl

-- a window without a passing row prints nothing
no_row_passes : text (record (counted measures.Rows 2 2) { predicate = Some (above 100) }) (going_on (rows_in five_lines)) ≡ []
unfolding lines_of fields_of judge read_by value_at placed_after from with_key keys_of lines text digits test_holds all_hold some_holds
no_row_passes = refl

-- SELECT g, v*2-1 FROM S WHERE v > 5
selection : text (record { shape = Select; streams = record { columns = 3; window = None } ∷ []; keys = []; partition = []; word = None; predicate = Some (above 5); aggregates = []; items = lone 1 ∷ (record { minus = false; factors = Column Left 2 ∷ Constant (pos 2) ∷ [] } ∷ record { minus = true; factors = Constant (pos 1) ∷ [] } ∷ []) ∷ [] })
    (going_on (rows_in five_lines)) ≡ codes "1,19\n1,39\n1,13\n"
unfolding lines_of fields_of judge read_by value_at placed_after from with_key keys_of lines text digits test_holds all_hold some_holds
selection = refl
