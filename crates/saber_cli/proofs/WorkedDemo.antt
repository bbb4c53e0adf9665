-- Worked summaries, and what is not told of a run over generated rows.
use Rattle.std.proofs.Common.{◌≡◌, ℕ, List, inl, inr, codes, refl}
use Rattle.std.specs.Fmt.{digits}
use Rattle.saber_plan.specs.Rows.{lines_of}
use Rattle.saber_plan.specs.Values.{value_at}
use Rattle.saber_plan.specs.Windows.{placed_after, from}
use Rattle.saber_plan.specs.Answers.{with_key, keys_of, lines, text}
use Rattle.saber_demo.specs.Generator.{state}
use Rattle.saber_words.specs.Commands.{usual_sizes}
use Rattle.saber_demo.specs.Summary.{summary}
use Rattle.saber_notes.specs.declared.outcome.InputFile.{InputFile}
use Rattle.saber_notes.specs.declared.outcome.Outcome.TheVariants.{Done, OpenFault, ReadFault}
use Rattle.saber_cli.specs.Due.{tells}
use Rattle.saber_cli.specs.Causes.{Allows}
use Rattle.saber_cli.specs.Puts.{PutsOut, whole_text, part, no_text}
use Rattle.saber_cli.specs.Demo.{summary_of_run, tasks_of_run}

-- the ninth row closes window 0
of_nine_rows : summary_of_run 1 9 ≡ codes "rows 9\nlines 3\nbytes 36\nlast 0,3,4,61612\n"
unfolding summary state from lines_of value_at placed_after with_key keys_of lines text digits
of_nine_rows = refl

of_eight_rows : summary_of_run 1 8 ≡ codes "rows 8\nlines 0\nbytes 0\nlast -\n"
unfolding summary state from lines_of value_at placed_after with_key keys_of lines text digits
of_eight_rows = refl

of_no_row : summary_of_run 1 0 ≡ codes "rows 0\nlines 0\nbytes 0\nlast -\n"
unfolding summary state from lines_of value_at placed_after with_key keys_of lines text digits
of_no_row = refl

three_tasks : tasks_of_run (record { seed = 1; rows = 9; sizes = record usual_sizes { task = 3; ring = 1; threads = 0 } }) ≡ 3
unfolding state from
three_tasks = refl

-- no fault of a file ends it
not_unread : (out : List ℕ) (count : ℕ) (file : InputFile) → Allows (tells out count) (ReadFault file) → ⊥
not_unread out count file (inl e) = cc
not_unread out count file (inr (inl e)) = cc
not_unread out count file (inr (inr e)) = cc

not_unopened : (out : List ℕ) (count : ℕ) (file : InputFile) → Allows (tells out count) (OpenFault file) → ⊥
not_unopened out count file (inl e) = cc
not_unopened out count file (inr (inl e)) = cc
not_unopened out count file (inr (inr e)) = cc

-- all tasks are told where it is done, and all of the summary is out
all_told : (text out : List ℕ) (count tasks : ℕ) → PutsOut (tells text count) Done tasks out → tasks ≡ count
all_told text out count tasks p = p.0.all (inl refl)

done_whole : (text out : List ℕ) (count tasks : ℕ) → PutsOut (tells text count) Done tasks out → out ≡ text
done_whole text out count tasks (t, whole_text e w) = w
done_whole text out count tasks (t, part n e w) = cc
done_whole text out count tasks (t, no_text n w) = absurd (n refl)
