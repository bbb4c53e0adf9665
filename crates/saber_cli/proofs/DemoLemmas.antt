-- A run over generated rows, from that of the engine.
use Rattle.std.proofs.Common.{Bool, ◌⊎◌, ⊎_elim, ◌++◌, ◌≡◌, ◌≤◌, ◌*◌, ◌^◌, min, inl, inr, ℕ, List, [], ◌∷◌, length, Option, Some, None, false, refl, sym, ◌∙◌, ap, subst, arith}
use Rattle.std.proofs.Math.Path.{transport}
use Rattle.std.proofs.lemmas.List.{take_all}
use Rattle.saber_io.specs.Outside.{FilesView}
use Rattle.saber_plan.specs.Outputs.{appended_text, appended-none}
use Rattle.saber_plan.specs.declared.rows.Side.{Side}
use Rattle.saber_plan.specs.declared.rows.Side.TheVariants as sides
use Rattle.saber_plan.specs.declared.rows.Row.{Row}
use Rattle.saber_plan.specs.Rows.{Read, all_read, bad}
use Rattle.saber_plan.specs.Inputs.{Input, going_on}
use Rattle.saber_plan.specs.Answers.{text}
use Rattle.saber_plan.specs.Tasks.{upto, task_count, row_tasks, run_input}
use Rattle.saber_plan.specs.Needs.{wide}
use Rattle.saber_plan.specs.Trees.{Tree}
use Rattle.saber_plan.specs.Sizes.{limits_of}
use Rattle.saber_laws.proofs.TaskCutLaws.{rows_fit as rows_have_tasks}
use Rattle.saber_laws.proofs.WideLaws.{none_is_wide}
use Rattle.saber_words.specs.Demo.{AskedDemo, HasDemoSizes, generated_limits}
use Rattle.saber_words.specs.Commands.{Asked, demo, command_of}
use Rattle.saber_words.specs.declared.commands.WordsFault.{WordsFault}
use Rattle.saber_words.specs.declared.commands.WordsFault.TheVariants as fault
use Rattle.saber_demo.specs.Rows.{demo_rows, generated_file}
use Rattle.saber_demo.specs.Query.{demo_tree}
use Rattle.saber_demo.specs.Summary.{summary}
use Rattle.saber_demo.proofs.ReadLaws.{generated_is_read}
use Rattle.saber_dispatch.specs.declared.inputs.Inputs.{Inputs}
use Rattle.saber_dispatch.specs.declared.inputs.Inputs.TheVariants.{One, Two}
use Rattle.saber_plan.specs.declared.ends.RunEnd.{RunEnd}
use Rattle.saber_plan.specs.declared.ends.RunEnd.TheVariants as ends
use Rattle.saber_engine.specs.Sources.{each_input, RoseAt}
use Rattle.saber_plan.specs.Files.{input_of}
use Rattle.saber_plan.specs.Runs as run_defs
use Rattle.saber_plan.specs.Runs.{Assembles, reach_of}
use Rattle.saber_notes.specs.declared.outcome.Outcome.{Outcome}
use Rattle.saber_notes.specs.declared.outcome.Outcome.TheVariants.{Done, Usage, FileCount, QueryFault, SecondQueryFault, Unchainable, LineRefused, ChainLineRefused, OpenFault, ReadFault, TooWide, WriteFault, NoMemory}
use Rattle.saber_cli.specs.Due.{Contents, Due, usage, missing, faulty, unlike, shows, tells, runs, IsDueFor}
use Rattle.saber_cli.specs.Causes.{Allows}
use Rattle.saber_cli.specs.Puts.{HasTasks, IsOfPut, PutsOut, PutsText, no_text}
use Rattle.saber_cli.specs.Gives.{Gives}
use Rattle.saber_cli.specs.Leaves.{Matches}
use Rattle.saber_cli.specs.Leaving.{LeavesTold}
use Rattle.saber_cli.specs.Unread.{unread}
use Rattle.saber_cli.specs.Demo.{generated_input, summary_of_run, tasks_of_run}
use Rattle.saber_cli.specs.Tells.{IsAnswer, IsWholeOrLacks, TellsRun}
use Rattle.saber_cli.proofs.SomeDue.{some_due}
use Rattle.saber_cli.proofs.LeavesLemmas.{none_left}

-- ---- the input and its tasks

-- the generated file is read whole
pub read_of : (seed n : ℕ) → n ≤ 2 ^ 20 → input_of demo_tree generated_limits (generated_file seed n ∷ []) ≡ record { rows = demo_rows seed n; end = all_read }
read_of seed n few = generated_is_read seed n (2 ^ 40) few (omega arith)

-- no task of it looks back
none_wide : (n ring : ℕ) (r : Input) → 1 ≤ ring → wide demo_tree n r ring ≡ None
none_wide n ring r some = none_is_wide demo_tree n r ring (λ k h. omega arith)

-- all tasks have all rows
all_rows : (n : ℕ) (xs : List Row) → 1 ≤ n → upto n (going_on xs) (task_count n (going_on xs)) ≡ going_on xs
all_rows n xs some =
    let room : length xs ≤ row_tasks n (going_on xs) * n = rows_have_tasks (length xs) n some in
    let whole : length xs ≤ min (row_tasks n (going_on xs) * n) (length xs) = omega arith in
    ap going_on (take_all (min (row_tasks n (going_on xs) * n) (length xs)) xs whole)

-- ---- how the run ends

-- no source that never fails has failed
never_rose : {S : Type 0} (side : Side) (old new : Inputs S) → RoseAt side (each_input (λ (s : S). 0) old) (each_input (λ (s : S). 0) new) → ⊥
never_rose sides.Left (One s) (One t) h = omega arith
never_rose sides.Left (One s) (Two t u) h = omega arith
never_rose sides.Left (Two s r) (One t) h = omega arith
never_rose sides.Left (Two s r) (Two t u) h = omega arith
never_rose sides.Right (One s) (One t) h = h
never_rose sides.Right (One s) (Two t u) h = h
never_rose sides.Right (Two s r) (One t) h = h
never_rose sides.Right (Two s r) (Two t u) h = omega arith

-- with all read, or for want of memory
pub end_is : {S : Type 0} (n ring : ℕ) (read : Read) (e : RunEnd) (old new : Inputs S) → 1 ≤ ring → read.end ≡ all_read → run_defs.EndsAs demo_tree n ring (run_input demo_tree false read) e read
    → ((side : Side) → e ≡ ends.ReadFault side → RoseAt side (each_input (λ (s : S). 0) old) (each_input (λ (s : S). 0) new)) → (e ≡ ends.WriteFault → ⊥) → IsWholeOrLacks e
end_is n ring read ends.AllRead old new some all h f w = tt
end_is n ring read (ends.Bad side line cause) old new some all h f w = let clash : all_read ≡ bad side line cause = sym all ∙ h.0 in cc
end_is n ring read (ends.ReadFault side) old new some all h f w = never_rose side old new (f side refl)
end_is n ring read (ends.TooWide task needs) old new some all h f w = let clash : None ≡ Some task = sym (none_wide n ring (run_input demo_tree false read) some) ∙ h.0 in cc
end_is n ring read ends.WriteFault old new some all h f w = w refl
end_is n ring read ends.NoMemory old new some all h f w = tt

-- ---- the run of the engine

-- what the generated file is read as
abbrev pub demo_read : AskedDemo → Read
demo_read d = record { rows = demo_rows d.seed d.rows; end = all_read }

-- the engine is given the query's plan and the generated file
pub record IsRunOf (d : AskedDemo) (q : Tree) (file : List ℕ) : Type 0 where
  pub plan : q ≡ demo_tree
  pub rows : file ≡ generated_file d.seed d.rows

-- what it gives then
pub run_gives : (d : AskedDemo) (q : Tree) (file : List ℕ) (e : RunEnd) (tasks : ℕ) (out : List ℕ) → HasDemoSizes d → IsRunOf d q file
    → run_defs.Gives q d.sizes.task d.sizes.ring d.sizes.flush (input_of q (limits_of d.sizes) (file ∷ [])) e tasks out → run_defs.Gives demo_tree d.sizes.task d.sizes.ring false (demo_read d) e tasks out
run_gives d q file e tasks out s r h =
    let read : input_of q (limits_of d.sizes) (file ∷ []) ≡ demo_read d = (λ i. input_of (r.plan i) (s.limits i) (r.rows i ∷ [])) ∙ read_of d.seed d.rows s.few_generated in
    transport (λ i. run_defs.Gives (r.plan i) d.sizes.task d.sizes.ring (s.goes_on i) (read i) e tasks out) h

-- where all is read, the text of all tasks is the answer
pub whole_answer : (d : AskedDemo) (ring tasks : ℕ) (e : RunEnd) (out : List ℕ) → 1 ≤ d.sizes.task → e ≡ ends.AllRead → run_defs.Gives demo_tree d.sizes.task ring false (demo_read d) e tasks out → IsAnswer d out tasks
whole_answer d ring tasks e out some is h =
    let a : Assembles demo_tree d.sizes.task (generated_input d.seed d.rows) (reach_of ends.AllRead) tasks out = subst (λ (x : RunEnd). Assembles demo_tree d.sizes.task (generated_input d.seed d.rows) (reach_of x) tasks out) is h.assembles in
    let all : tasks ≡ tasks_of_run d = a.all refl in
    let rows : upto d.sizes.task (generated_input d.seed d.rows) tasks ≡ generated_input d.seed d.rows =
    ap (upto d.sizes.task (generated_input d.seed d.rows)) all ∙ all_rows d.sizes.task (demo_rows d.seed d.rows) some in
    record { text_is = a.answers (λ e. cc) ∙ ap (text demo_tree) rows; tasks_are = all }

-- what a sink has that had nothing
pub written_is : (before after out : List ℕ) → before ≡ [] → Some after ≡ appended_text (Some before) out → after ≡ out
written_is before after out none is = let same : after ≡ before ++ out = cc in same ∙ ap (λ l. l ++ out) none

-- ---- what is due

tell_allows : (text : List ℕ) (count : ℕ) (o : Outcome) → IsOfPut o → Allows (tells text count) o
tell_allows text count Done k = inl refl
tell_allows text count Usage k = absurd k
tell_allows text count (SecondQueryFault place why) k = absurd k
tell_allows text count (Unchainable which) k = absurd k
tell_allows text count (ChainLineRefused place why) k = absurd k
tell_allows text count (FileCount s g) k = absurd k
tell_allows text count (QueryFault b c) k = absurd k
tell_allows text count (LineRefused s n c) k = absurd k
tell_allows text count (OpenFault f) k = absurd k
tell_allows text count (ReadFault f) k = absurd k
tell_allows text count (TooWide t n r) k = absurd k
tell_allows text count WriteFault k = inr (inl refl)
tell_allows text count NoMemory k = inr (inr refl)

put_kinds : (o : Outcome) → (o ≡ Done) ⊎ ((o ≡ WriteFault) ⊎ (o ≡ NoMemory)) → IsOfPut o
put_kinds o (inl e) = subst IsOfPut (sym e) tt
put_kinds o (inr (inl e)) = subst IsOfPut (sym e) tt
put_kinds o (inr (inr e)) = subst IsOfPut (sym e) tt

demo_allowed : (files : Contents) (d : AskedDemo) (o : Outcome) (due : Due) → IsOfPut o → IsDueFor files (demo d) due → Allows due o
demo_allowed files d o usage k h = absurd h
demo_allowed files d o missing k h = absurd h
demo_allowed files d o (faulty b x) k h = absurd h
demo_allowed files d o (unlike s g) k h = absurd h
demo_allowed files d o (shows out) k h = absurd h
demo_allowed files d o (tells text count) k h = tell_allows text count o k
demo_allowed files d o (runs q n ring flush read) k h = absurd h

demo_puts : (files : Contents) (d : AskedDemo) (o : Outcome) (tasks : ℕ) (out : List ℕ) (due : Due) → PutsText (summary_of_run d.seed d.rows) o out → HasTasks (tasks_of_run d) tasks o → IsDueFor files (demo d) due → PutsOut due o tasks out
demo_puts files d o tasks out usage p t h = absurd h
demo_puts files d o tasks out missing p t h = absurd h
demo_puts files d o tasks out (faulty b x) p t h = absurd h
demo_puts files d o tasks out (unlike s g) p t h = absurd h
demo_puts files d o tasks out (shows text) p t h = absurd h
demo_puts files d o tasks out (tells text count) p t h = (subst (λ c. HasTasks c tasks o) (sym h.1) t, subst (λ x. PutsText x o out) (sym h.0) p)
demo_puts files d o tasks out (runs q n ring flush read) p t h = absurd h

-- whatever the files, the summary is due
gives_told : (files : Contents) (d : AskedDemo) (o : Outcome) (tasks : ℕ) (out : List ℕ) → IsOfPut o → PutsText (summary_of_run d.seed d.rows) o out → HasTasks (tasks_of_run d) tasks o → Gives files (demo d) o tasks out
gives_told files d o tasks out k p t = record {
  something = some_due files (demo d) tt;
  allows = λ due h. demo_allowed files d o due k h;
  puts = λ due h. demo_puts files d o tasks out due p t h;
}

-- and so it is where the call gives what it gives over no files
pub told_over : (files : Contents) (d : AskedDemo) (o : Outcome) (tasks : ℕ) (out : List ℕ) → Gives [] (demo d) o tasks out → Gives files (demo d) o tasks out
told_over files d o tasks out g =
    let told = tells (summary_of_run d.seed d.rows) (tasks_of_run d) in
    let puts = g.puts told (refl, refl) in
    gives_told files d o tasks out (put_kinds o (g.allows told (refl, refl))) puts.1 puts.0

-- how it ends
pub told_kinds : (d : AskedDemo) (o : Outcome) (tasks : ℕ) (out : List ℕ) → Gives [] (demo d) o tasks out → IsOfPut o
told_kinds d o tasks out g = put_kinds o (g.allows (tells (summary_of_run d.seed d.rows) (tasks_of_run d)) (refl, refl))

-- ---- what goes out

-- the summary of an answer, whose writing came to this
pub answer_told : (d : AskedDemo) (o : Outcome) (answer : List ℕ) (tasks told : ℕ) (old new : Option (List ℕ)) (text out : List ℕ) → IsAnswer d answer tasks → text ≡ summary d.rows answer → ((o ≡ NoMemory → ⊥) → told ≡ tasks) → (o ≡ NoMemory → told ≡ 0) → new ≡ appended_text old out → PutsText text o out → IsOfPut o
    → TellsRun d o told old new
answer_told d o answer tasks told old new text out a is same none w p k = record {
  out = out;
  written = w;
  gives = gives_told [] d o told out k (subst (λ t. PutsText t o out) (is ∙ ap (summary d.rows) a.text_is) p)
      (record { all = λ e. same (⊎_elim not_after_done not_after_failed e) ∙ a.tasks_are; none = none });
}
  where
    not_after_done : o ≡ Done → o ≡ NoMemory → ⊥
    not_after_done e lacks = let clash : Done ≡ NoMemory = sym e ∙ lacks in cc

    not_after_failed : o ≡ WriteFault → o ≡ NoMemory → ⊥
    not_after_failed e lacks = let clash : WriteFault ≡ NoMemory = sym e ∙ lacks in cc

-- nothing goes out for want of memory
pub memory_told : (d : AskedDemo) (old : Option (List ℕ)) → TellsRun d NoMemory 0 old old
memory_told d old = record {
  out = [];
  written = appended-none old;
  gives = gives_told [] d NoMemory 0 [] tt (no_text (λ e. cc) refl) (record { all = λ e. absurd (⊎_elim not_done not_failed e); none = λ e. refl });
}
  where
    not_done : NoMemory ≡ Done → ⊥
    not_done e = cc

    not_failed : NoMemory ≡ WriteFault → ⊥
    not_failed e = cc

-- so it is of a call that came to that
pub lacked_told : (d : AskedDemo) (o : Outcome) (tasks : ℕ) (old new : Option (List ℕ)) → o ≡ NoMemory → tasks ≡ 0 → new ≡ old → TellsRun d o tasks old new
lacked_told d o tasks old new e t n =
    subst (λ x. TellsRun d x tasks old new) (sym e) (subst (λ x. TellsRun d NoMemory x old new) (sym t) (subst (TellsRun d NoMemory 0 old) (sym n) (memory_told d old)))

-- words that were not read
pub unread_told : (ws : List (List ℕ)) (d : AskedDemo) (f : WordsFault) (old : Option (List ℕ)) → (f ≡ fault.Usage → command_of ws ≡ None) → command_of ws ≡ Some (demo d) → TellsRun d (unread f) 0 old old
unread_told ws d fault.NoMemory old h is = memory_told d old
unread_told ws d fault.Usage old h is = let clash : Some (demo d) ≡ None = sym is ∙ h refl in cc

-- ---- the files

tell_matches : (o : Outcome) → IsOfPut o → Matches 1 0 o 0 []
tell_matches Done k = record { asked_for = refl; all = refl; good = tt }
tell_matches Usage k = absurd k
tell_matches (SecondQueryFault place why) k = absurd k
tell_matches (Unchainable which) k = absurd k
tell_matches (ChainLineRefused place why) k = absurd k
tell_matches (FileCount s g) k = absurd k
tell_matches (QueryFault b c) k = absurd k
tell_matches (LineRefused s n c) k = absurd k
tell_matches (OpenFault f) k = absurd k
tell_matches (ReadFault f) k = absurd k
tell_matches (TooWide t n r) k = absurd k
tell_matches WriteFault k = (refl, refl)
tell_matches NoMemory k = refl

-- none is asked for
pub tell_leaves : (c : Asked) (d : AskedDemo) (o : Outcome) (old : Option FilesView) → c ≡ demo d → IsOfPut o → LeavesTold c o old old
tell_leaves c d o old is k = subst (λ (a : Asked). LeavesTold a o old old) (sym is) (none_left [] (λ t. ⊥) o old (tell_matches o k))
