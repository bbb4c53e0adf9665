-- How often a call writes.
use Rattle.std.proofs.Common.{◌≡◌, ◌≢◌, ℕ, List, Option, Some, None, IfSome, sym, ◌∙◌, ap, subst, refl}
use Rattle.saber_io.specs.Outside.{FilesView}
use Rattle.saber_plan.specs.declared.sizes.Sizes.{Sizes}
use Rattle.saber_plan.specs.Sizes.{limits_of}
use Rattle.saber_plan.specs.Inputs.{Input}
use Rattle.saber_plan.specs.Trees.{Tree}
use Rattle.saber_plan.specs.Outputs.{raised_by}
use Rattle.saber_plan.specs.Files.{input_of}
use Rattle.saber_plan.specs.Tasks.{run_input}
use Rattle.saber_plan.specs.Runs.{writes_of, writes_over}
use Rattle.saber_plan.specs.declared.ends.RunEnd.{RunEnd}
use Rattle.saber_plan.specs.declared.ends.RunEnd.TheVariants as ends
use Rattle.saber_laws.proofs.WriteLaws.{no_tasks_no_text}
use Rattle.saber_words.specs.Commands.{Asked, AskedRun, run, check, demo, chain, command_of}
use Rattle.saber_words.specs.declared.commands.WordsFault.{WordsFault}
use Rattle.saber_words.specs.declared.commands.WordsFault.TheVariants as fault
use Rattle.saber_notes.specs.declared.outcome.Outcome.{Outcome}
use Rattle.saber_notes.specs.declared.outcome.Outcome.TheVariants.{Done, Usage, FileCount, QueryFault, SecondQueryFault, Unchainable, LineRefused, ChainLineRefused, OpenFault, ReadFault, TooWide, WriteFault, NoMemory}
use Rattle.saber_dispatch.specs.declared.inputs.Inputs.{Inputs}
use Rattle.saber_dispatch.specs.Sources.{each_input}
use Rattle.saber_engine.specs.Sources.{told_by}
use Rattle.saber_cli.specs.Due.{Contents, HasRun, contents_of, row_names}
use Rattle.saber_cli.specs.Endings.{end_of, ended_as}
use Rattle.saber_cli.specs.RowFiles.{OpensAll}
use Rattle.saber_cli.specs.Unread.{unread}
use Rattle.saber_cli.specs.Writes.{WritesOver, WritesIn, WritesRows, WritesTold, run_writes, text_writes}
use Rattle.saber_cli.proofs.AnsweredLemmas.{for_any}
use Rattle.saber_cli.proofs.DueLemmas.{run_plan}
use Rattle.saber_cli.proofs.RowLemmas.{all_told}

-- ---- a run

-- an outcome tells of the write that failed
ends_alike : (q : Tree) (n : ℕ) (r : Input) (ring : ℕ) (e : RunEnd) (tasks : ℕ) → writes_of q n r e tasks ≡ writes_of q n r (end_of (ended_as ring e)) tasks
ends_alike q n r ring ends.AllRead tasks = refl
ends_alike q n r ring (ends.Bad side line cause) tasks = refl
ends_alike q n r ring (ends.ReadFault side) tasks = refl
ends_alike q n r ring (ends.TooWide task need) tasks = refl
ends_alike q n r ring ends.WriteFault tasks = refl
ends_alike q n r ring ends.NoMemory tasks = refl

-- what a run tells of its writes, by its outcome
pub told_writes : (q : Tree) (s : Sizes) (told : Option (List (List ℕ))) (e : RunEnd) (o : Outcome) (tasks had has : ℕ) → o ≡ ended_as s.ring e
    → IfSome told (λ all. has ≡ raised_by had (writes_over q s all e tasks)) → IfSome told (λ all. WritesOver q s all o tasks had has)
told_writes q s None e o tasks had has is h = tt
told_writes q s (Some all) e o tasks had has is h =
    subst (λ x. WritesOver q s all x tasks had has) (sym is) (h ∙ ap (raised_by had) (ends_alike q s.task (run_input q s.flush (input_of q (limits_of s) all)) s.ring e tasks))

-- where nothing was run nothing was written
pub writes_none : (q : Tree) (n : ℕ) (r : Input) (had : ℕ) (o : Outcome) → o ≢ WriteFault → had ≡ raised_by had (writes_of q n r (end_of o) 0)
writes_none q n r had Done u = ap (raised_by had) (sym (no_tasks_no_text q n r))
writes_none q n r had Usage u = ap (raised_by had) (sym (no_tasks_no_text q n r))
writes_none q n r had (FileCount streams given) u = ap (raised_by had) (sym (no_tasks_no_text q n r))
writes_none q n r had (QueryFault place why) u = ap (raised_by had) (sym (no_tasks_no_text q n r))
writes_none q n r had (SecondQueryFault place why) u = ap (raised_by had) (sym (no_tasks_no_text q n r))
writes_none q n r had (Unchainable which) u = ap (raised_by had) (sym (no_tasks_no_text q n r))
writes_none q n r had (LineRefused side line why) u = ap (raised_by had) (sym (no_tasks_no_text q n r))
writes_none q n r had (ChainLineRefused line why) u = ap (raised_by had) (sym (no_tasks_no_text q n r))
writes_none q n r had (OpenFault file) u = ap (raised_by had) (sym (no_tasks_no_text q n r))
writes_none q n r had (ReadFault file) u = ap (raised_by had) (sym (no_tasks_no_text q n r))
writes_none q n r had (TooWide task need cells) u = ap (raised_by had) (sym (no_tasks_no_text q n r))
writes_none q n r had WriteFault u = absurd (u refl)
writes_none q n r had NoMemory u = ap (raised_by had) (sym (no_tasks_no_text q n r))

-- over row files that weren't opened
pub rows_unwritten : (q : Tree) (s : Sizes) (names : List (List ℕ)) (told : Option FilesView) (o : Outcome) (had : ℕ) → o ≢ WriteFault → WritesRows q s names told o 0 had had
rows_unwritten q s names told o had u =
    for_any (λ (t : FilesView). IfSome (contents_of t.contents names) (λ all. WritesOver q s all o 0 had had)) told
    (λ t. for_any (λ (all : List (List ℕ)). WritesOver q s all o 0 had had) (contents_of t.contents names) (λ all. writes_none q s.task (run_input q s.flush (input_of q (limits_of s) all)) had o u))

-- and of a run that came to no plan, or to no row files
pub run_unwritten : (r : AskedRun) (told : Option FilesView) (o : Outcome) (had : ℕ) → o ≢ WriteFault → IfSome told (λ t. WritesIn t.contents r o 0 had had)
run_unwritten r told o had u =
    for_any (λ (t : FilesView). (q : Tree) → HasRun t.contents r q → IfSome (contents_of t.contents (row_names r)) (λ all. had ≡ raised_by had (run_writes r q all o 0))) told
    (λ t q h.
    for_any (λ (all : List (List ℕ)). had ≡ raised_by had (run_writes r q all o 0)) (contents_of t.contents (row_names r))
    (λ all. writes_none q r.sizes.task (run_input q r.sizes.flush (input_of q (limits_of r.sizes) all)) had o u))

-- what is told of open sources holds of their files
pub rows_writes : {S : Type 0} (left : S → Option (List ℕ)) (faults : S → ℕ) (q : Tree) (s : Sizes) (names : List (List ℕ)) (o : Outcome) (tasks had has : ℕ) (i : Inputs S) (told : Option FilesView)
    → IfSome told (λ t. OpensAll t.contents names (each_input left i)) → IfSome (told_by left i) (λ all. WritesOver q s all o tasks had has) → WritesRows q s names told o tasks had has
rows_writes left faults q s names o tasks had has i None opens h = tt
rows_writes left faults q s names o tasks had has i (Some t) opens h =
    let a = all_told left faults t.contents names i opens in
    subst (λ x. IfSome x (λ all. WritesOver q s all o tasks had has)) (sym a.1) (subst (λ x. IfSome x (λ all. WritesOver q s all o tasks had has)) a.2 h)

-- a run's query has no other plan
pub same_run : (files : Contents) (r : AskedRun) (p : Tree) (o : Outcome) (tasks had has : ℕ) (names : Option (List (List ℕ))) → HasRun files r p
    → IfSome names (λ all. has ≡ raised_by had (run_writes r p all o tasks)) → (q : Tree) → HasRun files r q → IfSome names (λ all. has ≡ raised_by had (run_writes r q all o tasks))
same_run files r p o tasks had has names u h q k =
    subst (λ z. IfSome names (λ all. has ≡ raised_by had (run_writes r z all o tasks))) (sym (run_plan files r q p u.text k u.there u.plan)) h

-- ---- a text

-- none was written
pub no_text_written : (o : Outcome) (had : ℕ) → o ≢ Done → o ≢ WriteFault → had ≡ raised_by had (text_writes o)
no_text_written Done had u w = absurd (u refl)
no_text_written Usage had u w = refl
no_text_written (FileCount streams given) had u w = refl
no_text_written (QueryFault place why) had u w = refl
no_text_written (SecondQueryFault place why) had u w = refl
no_text_written (Unchainable which) had u w = refl
no_text_written (LineRefused side line why) had u w = refl
no_text_written (ChainLineRefused line why) had u w = refl
no_text_written (OpenFault file) had u w = refl
no_text_written (ReadFault file) had u w = refl
no_text_written (TooWide task need cells) had u w = refl
no_text_written WriteFault had u w = absurd (w refl)
no_text_written NoMemory had u w = refl

-- ---- words that were not read

pub unread_unwritten : (ws : List (List ℕ)) (c : Asked) (f : WordsFault) (told : Option FilesView) (had : ℕ) → (f ≡ fault.Usage → command_of ws ≡ None) → command_of ws ≡ Some c
    → WritesTold c told (unread f) 0 had had
unread_unwritten ws (run r) fault.NoMemory told had h is = run_unwritten r told NoMemory had (λ e. cc)
unread_unwritten ws (check c) fault.NoMemory told had h is = refl
unread_unwritten ws (demo d) fault.NoMemory told had h is = refl
unread_unwritten ws (chain a) fault.NoMemory told had h is = tt
unread_unwritten ws c fault.Usage told had h is = let clash : Some c ≡ None = sym is ∙ h refl in cc
