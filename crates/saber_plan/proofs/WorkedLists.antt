-- Worked answers of queries with PARTITION BY.
use Rattle.std.specs.Prelude.{◌≡◌, [], ◌∷◌, Some, true, codes, refl}
use Rattle.std.specs.Fmt.{digits}
use Rattle.saber_plan.specs.declared.plans.Fold.TheVariants.{Sum, First}
use Rattle.saber_plan.specs.declared.windows.Measure.TheVariants as measures
use Rattle.saber_plan.specs.Trees.{Tree}
use Rattle.saber_plan.specs.Rows.{rows, lines_of, fields_of, judge, read_by}
use Rattle.saber_plan.specs.Inputs.{going_on}
use Rattle.saber_plan.specs.Values.{value_at, test_holds, all_hold, some_holds}
use Rattle.saber_plan.specs.Windows.{placed_after, from}
use Rattle.saber_plan.specs.Answers.{with_key, keys_of, lines, closed_in_turn, text}
use Rattle.saber_plan.specs.Tasks.{run_input, added_text, places, places_after}
use Rattle.saber_plan.proofs.Cases.{left_of, five_lines, rows_in, over, grouped, above}

-- SELECT g, SUM(v) FROM S [PARTITION BY g ROWS 2 SLIDE 1]
abbrev sums_of_lists : Tree
sums_of_lists = record (grouped measures.Rows 2 1 [] (over First 1 ∷ over Sum 2 ∷ []) (1 ∷ 2 ∷ [])) { partition = 1 ∷ [] }

-- windows are counted in each key list, and printed as rows close them
each_list : text sums_of_lists (going_on (rows_in five_lines)) ≡ codes "0,1,30\n1,1,27\n0,2,6\n"
unfolding lines_of fields_of judge read_by value_at placed_after from with_key keys_of lines closed_in_turn text digits
each_list = refl

-- the end closes what is begun: by key list, then by window
each_list_to_the_end : text sums_of_lists (run_input sums_of_lists true (rows (left_of 3) five_lines)) ≡ codes "0,1,30\n1,1,27\n0,2,6\n2,1,7\n1,2,1\n"
unfolding lines_of fields_of judge read_by value_at placed_after from with_key keys_of lines closed_in_turn text digits
each_list_to_the_end = refl

-- rows that WHERE drops are counted too
lists_before_filter : text (record sums_of_lists { predicate = Some (above 5) }) (going_on (rows_in five_lines)) ≡ codes "0,1,30\n1,1,27\n"
unfolding lines_of fields_of judge read_by value_at placed_after from with_key keys_of lines closed_in_turn text digits test_holds all_hold some_holds
lists_before_filter = refl

-- the second task of two rows adds what its rows close
second_task : added_text sums_of_lists (going_on (rows_in five_lines)) 2 4 ≡ codes "1,1,27\n"
unfolding lines_of fields_of judge read_by value_at placed_after from with_key keys_of lines closed_in_turn added_text digits
second_task = refl

-- where its rows stand in their substreams
second_places : places sums_of_lists (rows_in five_lines) 2 4 ≡ 0 ∷ 2 ∷ []
unfolding lines_of fields_of judge read_by places_after
second_places = refl

-- windows side by side, of two rows each
lists_side_by_side : text (record (grouped measures.Rows 2 2 [] (over First 1 ∷ []) (1 ∷ 0 ∷ [])) { partition = 1 ∷ [] }) (going_on (rows_in five_lines)) ≡ codes "0,1,2\n0,2,2\n"
unfolding lines_of fields_of judge read_by value_at placed_after from with_key keys_of lines closed_in_turn text digits
lists_side_by_side = refl
