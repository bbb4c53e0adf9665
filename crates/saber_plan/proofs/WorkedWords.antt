-- Worked answers of queries with a stream word.
use Rattle.std.specs.Prelude.{◌≡◌, [], ◌∷◌, Some, true, codes, refl, pos}
use Rattle.std.specs.Fmt.{digits}
use Rattle.saber_plan.specs.declared.plans.Shape.TheVariants.{Select}
use Rattle.saber_plan.specs.declared.plans.Word.{Word}
use Rattle.saber_plan.specs.declared.plans.Word.TheVariants.{Rstream, Istream, Dstream}
use Rattle.saber_plan.specs.declared.windows.Measure.TheVariants as measures
use Rattle.saber_plan.specs.Trees.{Tree}
use Rattle.saber_plan.specs.Rows.{rows, lines_of, fields_of, judge, read_by}
use Rattle.saber_plan.specs.Inputs.{going_on}
use Rattle.saber_plan.specs.Values.{value_at}
use Rattle.saber_plan.specs.Windows.{placed_after, from}
use Rattle.saber_plan.specs.Answers.{with_key, keys_of, lines, text}
use Rattle.saber_plan.specs.Tasks.{run_input, added_text, last_answers}
use Rattle.saber_plan.proofs.Cases.{left_of, five_lines, rows_in, grouped, counted}

-- WORD (SELECT g FROM S [ROWS 3 SLIDE 1])
abbrev groups_of_three : Word → Tree
groups_of_three word = record (grouped measures.Rows 3 1 [] [] (1 ∷ [])) { shape = Select; word = Some word }

all_answers : text (groups_of_three Rstream) (going_on (rows_in five_lines)) ≡ codes "0,1\n0,1\n0,2\n1,1\n1,2\n1,1\n2,2\n2,1\n2,2\n"
unfolding lines_of fields_of judge read_by value_at placed_after from lines text digits
all_answers = refl

gained_answers : text (groups_of_three Istream) (going_on (rows_in five_lines)) ≡ codes "0,1\n0,1\n0,2\n2,2\n"
unfolding lines_of fields_of judge read_by value_at placed_after from text digits
gained_answers = refl

lost_answers : text (groups_of_three Dstream) (going_on (rows_in five_lines)) ≡ codes "2,1\n"
unfolding lines_of fields_of judge read_by value_at placed_after from text digits
lost_answers = refl

-- DSTREAM (SELECT COUNT(*) FROM S [RANGE 3 SLIDE 2]): a window without a row loses what the one before it had
lost_counts : text (record (counted measures.Range 3 2) { word = Some Dstream }) (going_on (rows_in five_lines)) ≡ codes "1,4\n2,2\n"
unfolding lines_of fields_of judge read_by value_at placed_after from with_key keys_of text digits
lost_counts = refl

-- the third task of two rows adds what window 2 gains over window 1, of which the answers are kept
last_task : added_text (groups_of_three Istream) (going_on (rows_in five_lines)) 4 5 ≡ codes "2,2\n"
unfolding lines_of fields_of judge read_by value_at placed_after from added_text digits
last_task = refl

kept_answers : last_answers (groups_of_three Istream) (going_on (rows_in (codes "0,1,10\n1,1,20\n2,2,5\n2,1,7\n"))) ≡ (pos 1 ∷ []) ∷ (pos 2 ∷ []) ∷ (pos 1 ∷ []) ∷ []
unfolding lines_of fields_of judge read_by value_at placed_after last_answers
kept_answers = refl

-- with the end, window 3 and window 4 are closed too
all_to_the_end : text (groups_of_three Rstream) (run_input (groups_of_three Rstream) true (rows (left_of 3) five_lines))
    ≡ codes "0,1\n0,1\n0,2\n1,1\n1,2\n1,1\n2,2\n2,1\n2,2\n3,1\n3,2\n4,2\n"
unfolding lines_of fields_of judge read_by value_at placed_after from lines text digits
all_to_the_end = refl
