-- Worked answers of queries whose windows are closed by the end of the input.
use Rattle.std.specs.Prelude.{◌≡◌, ℕ, ◌-◌, ◌^◌, List, [], ◌∷◌, map, true, false, None, codes, refl}
use Rattle.std.specs.Fmt.{digits}
use Rattle.saber_plan.specs.declared.windows.Measure.TheVariants as measures
use Rattle.saber_plan.specs.Trees.{Tree}
use Rattle.saber_plan.specs.Rows.{Read, rows, lines_of, fields_of, judge, read_by}
use Rattle.saber_plan.specs.Inputs.{Input, input, merged_rows}
use Rattle.saber_plan.specs.Values.{value_at, test_holds, all_hold, some_holds}
use Rattle.saber_plan.specs.Windows.{placed_after, from}
use Rattle.saber_plan.specs.Answers.{with_key, keys_of, lines, text}
use Rattle.saber_plan.specs.Tasks.{run_input, task_start, task_count, piece, piece_between}
use Rattle.saber_plan.specs.Shares.{shares_between}
use Rattle.saber_plan.specs.Needs.{first_open, free, wide}
use Rattle.saber_plan.specs.Outputs.{raised_by}
use Rattle.saber_plan.specs.declared.ends.RunEnd.TheVariants as ends
use Rattle.saber_plan.specs.Runs.{has_text, tasks_with_text, writes_of}
use Rattle.saber_plan.proofs.Cases.{left_of, right_of, joining, five_lines, counted, sums_by_group}

-- the input of a run over one file, with its end
abbrev to_end : Tree → List ℕ → Input
to_end q bytes = run_input q true (rows (left_of 3) bytes)

abbrev pairs : Tree
pairs = counted measures.Rows 2 2

-- the last row's window has only that row
last_row : text pairs (to_end pairs five_lines) ≡ codes "0,2\n1,2\n2,1\n"
unfolding lines_of fields_of judge read_by value_at placed_after from with_key keys_of lines text digits
last_row = refl

-- three tasks have rows, and the flush task has none
one_task_more : task_count 2 (to_end pairs five_lines) ≡ 4
unfolding lines_of fields_of judge read_by
one_task_more = refl

cuts : map (task_start 2 (to_end pairs five_lines)) (from 0 6) ≡ 0 ∷ 2 ∷ 4 ∷ 5 ∷ 6 ∷ 6 ∷ []
unfolding lines_of fields_of judge read_by from
cuts = refl

last_groups : text sums_by_group (to_end sums_by_group five_lines) ≡ codes "0,1,30\n0,2,5\n1,1,27\n1,2,5\n2,1,7\n2,2,6\n3,1,7\n3,2,1\n4,2,1\n"
unfolding lines_of fields_of judge read_by value_at placed_after from with_key keys_of lines text digits
last_groups = refl

abbrev by_time : Tree
by_time = counted measures.Range 3 2

last_times : text by_time (to_end by_time five_lines) ≡ codes "0,4\n1,2\n4,1\n"
unfolding lines_of fields_of judge read_by value_at placed_after from with_key keys_of lines text digits
last_times = refl

-- a file without a row has no flush task
no_row : to_end pairs [] ≡ record { rows = []; ended = false }
unfolding lines_of read_by
no_row = refl

-- a line that is refused closes no window
refused_line : text pairs (to_end pairs (codes "0,1,10\n1,1,20\n0,1,1\n")) ≡ codes "0,2\n"
unfolding lines_of fields_of judge read_by value_at placed_after from with_key keys_of lines text digits
refused_line = refl

flush_lines : (piece sums_by_group 2 (to_end sums_by_group five_lines) 3).lines ≡ []
unfolding lines_of fields_of judge read_by value_at placed_after from with_key keys_of lines piece_between shares_between digits
flush_lines = refl

flush_closes : (piece sums_by_group 2 (to_end sums_by_group five_lines) 3).closed ≡ 5
unfolding lines_of fields_of judge read_by value_at placed_after from with_key keys_of lines piece_between shares_between digits
flush_closes = refl

-- ---- writes

-- in tasks of one row, each second one closes a window, and so does the end
which_have_text : map (has_text pairs 1 (to_end pairs five_lines)) (from 0 7) ≡ false ∷ true ∷ false ∷ true ∷ false ∷ true ∷ false ∷ []
unfolding lines_of fields_of judge read_by value_at placed_after from with_key keys_of lines text digits
which_have_text = refl

two_of_five : tasks_with_text pairs 1 (to_end pairs five_lines) 5 ≡ 2
unfolding lines_of fields_of judge read_by value_at placed_after from with_key keys_of lines text digits tasks_with_text
two_of_five = refl

-- a task with two lines has one write
two_of_three : writes_of pairs 4 (to_end pairs five_lines) ends.AllRead 3 ≡ 2
unfolding lines_of fields_of judge read_by value_at placed_after from with_key keys_of lines text digits tasks_with_text
two_of_three = refl

-- the write that failed counts too
failed_write : writes_of pairs 1 (to_end pairs five_lines) ends.WriteFault 3 ≡ 2
unfolding lines_of fields_of judge read_by value_at placed_after from with_key keys_of lines text digits tasks_with_text
failed_write = refl

three_more : raised_by 4 3 ≡ 7
three_more = refl

-- a count stands still at its last value
no_more_to_count : raised_by (2 ^ 64 - 2) 3 ≡ 2 ^ 64 - 1
no_more_to_count = refl

-- ---- a join

abbrev joins : Tree
joins = joining measures.Range 4 4 4

abbrev two_files : Read
two_files = input (rows (left_of 2) (codes "0,5\n1,9\n4,1\n") ∷ rows (right_of 2) (codes "0,7\n3,6\n8,0\n") ∷ [])

abbrev joined : Input
joined = run_input joins true two_files

no_pair_more : text joins joined ≡ codes "0,5,7\n0,5,6\n"
unfolding lines_of fields_of judge read_by value_at placed_after from with_key keys_of lines text digits test_holds all_hold some_holds merged_rows
no_pair_more = refl

seven_tasks : task_count 1 joined ≡ 7
unfolding lines_of fields_of judge read_by merged_rows
seven_tasks = refl

-- the flush task looks back as any task does, and behind it nothing is open
free_to_the_end : map (free joins 1 joined) (from 0 8) ≡ 0 ∷ 0 ∷ 0 ∷ 0 ∷ 0 ∷ 4 ∷ 5 ∷ 7 ∷ []
unfolding lines_of fields_of judge read_by merged_rows placed_after from first_open
free_to_the_end = refl

five_are_enough : wide joins 1 joined 5 ≡ None
unfolding lines_of fields_of judge read_by merged_rows placed_after from first_open
five_are_enough = refl
