-- What is due for a command, from what was read of its query.
use Rattle.saber_plan.specs.Inputs.{Input}
use Rattle.std.proofs.Common.{◌≡◌, ◌⊎◌, ⊎_elim, inl, inr, ℕ, List, [], Some, None, refl, sym, ◌∙◌, ap, subst, arith}
use Rattle.saber_plan.specs.Trees.{Tree}
use Rattle.saber_plan.specs.Tasks.{upto, run_input}
use Rattle.saber_plan.specs.Answers.{text}
use Rattle.saber_plan.specs.Checked.{IsChecked}
use Rattle.saber_io.specs.Outside.{content_in}
use Rattle.saber_query.specs.declared.fault.Cause.{Cause}
use Rattle.saber_check.specs.Texts.{HasPlan, HasFault}
use Rattle.saber_words.specs.Commands.{Asked, run, check, demo, chain, AskedRun}
use Rattle.saber_notes.specs.declared.outcome.Outcome.{Outcome}
use Rattle.saber_notes.specs.declared.outcome.Outcome.TheVariants.{Done, Usage, FileCount, QueryFault, SecondQueryFault, Unchainable, LineRefused, ChainLineRefused, OpenFault, ReadFault, TooWide, WriteFault, NoMemory}
use Rattle.saber_check.proofs.FrontLaws.{a_plan_is_checked, front_has_plan, front_has_fault}
use Rattle.saber_check.proofs.TextLaws.{fault_or_plan, one_plan}
use Rattle.saber_laws.proofs.CheckedLaws.{checked_fit}
use Rattle.saber_laws.proofs.StepLaws.{no_rows_give_nothing}
use Rattle.saber_laws.proofs.TaskCutLaws.{no_tasks_no_rows}
use Rattle.saber_cli.specs.Outcomes.{IsEarly, IsFileFault, IsQueryUnread}
use Rattle.saber_cli.specs.Texts.{BeginsFile}
use Rattle.saber_plan.specs.Runs.{Assembles, Reach, all_tasks, before_task, first_tasks, cut_off, reach_of}
use Rattle.saber_cli.specs.Endings.{end_of}
use Rattle.saber_cli.specs.Due.{Contents, Due, usage, missing, faulty, unlike, shows, tells, runs, IsDueFor, HasRun}
use Rattle.saber_cli.specs.Causes.{Allows}
use Rattle.saber_cli.specs.Puts.{PutsOut, no_text}

-- ---- nothing went out

-- no task has a text
pub no_task_text : (q : Tree) (n : ℕ) (u : Input) → IsChecked q → text q (upto n u 0) ≡ []
no_task_text q n u h = ap (text q) (no_tasks_no_rows n u) ∙ (no_rows_give_nothing q (checked_fit q h)).text

early_reach : (o : Outcome) → IsEarly o → reach_of (end_of o) ≡ first_tasks
early_reach Done h = absurd h
early_reach Usage h = absurd h
early_reach (SecondQueryFault place why) h = absurd h
early_reach (Unchainable which) h = absurd h
early_reach (ChainLineRefused place why) h = absurd h
early_reach (FileCount s g) h = refl
early_reach (QueryFault b c) h = refl
early_reach (LineRefused s n c) h = absurd h
early_reach (OpenFault f) h = refl
early_reach (ReadFault f) h = refl
early_reach (TooWide t n r) h = absurd h
early_reach WriteFault h = absurd h
early_reach NoMemory h = refl

none_assembled : (q : Tree) (n : ℕ) (u : Input) → IsChecked q → Assembles q n u first_tasks 0 []
none_assembled q n u k = record {
  few = omega arith;
  all = λ e. absurd (not_all e);
  before = λ t e. absurd (not_before t e);
  answers = λ w. sym (no_task_text q n u k);
  cut = λ e. absurd (not_cut e);
}
  where
    not_all : first_tasks ≡ all_tasks → ⊥
    not_all e = cc

    not_before : (t : ℕ) → first_tasks ≡ before_task t → ⊥
    not_before t e = cc

    not_cut : first_tasks ≡ cut_off → ⊥
    not_cut e = cc

pub nothing_assembled : (q : Tree) (n : ℕ) (u : Input) (o : Outcome) → IsChecked q → IsEarly o → Assembles q n u (reach_of (end_of o)) 0 []
nothing_assembled q n u o k h = subst (λ (x : Reach). Assembles q n u x 0 []) (sym (early_reach o h)) (none_assembled q n u k)

run_checked : (files : Contents) (r : AskedRun) (q : Tree) → HasRun files r q → IsChecked q
run_checked files r q h = a_plan_is_checked h.text q h.plan

-- where an early outcome comes, nothing went out, whatever is due
pub early_puts : (files : Contents) (c : Asked) (o : Outcome) (d : Due) → IsEarly o → IsDueFor files c d → PutsOut d o 0 []
early_puts files c o usage h d = (refl, refl)
early_puts files c o missing h d = (refl, refl)
early_puts files c o (tells text count) h d = (
  record { all = λ e. absurd (⊎_elim (λ a. subst IsEarly a h) (λ a. subst IsEarly a h) e); none = λ e. refl },
  no_text (λ e. subst IsEarly e h) refl,
)
early_puts files c o (faulty b k) h d = (refl, refl)
early_puts files c o (unlike s g) h d = (refl, refl)
early_puts files c o (shows out) h d = (refl, no_text (λ e. subst IsEarly e h) refl)
early_puts files (run r) o (runs q n ring flush read) h d = nothing_assembled q n (run_input q flush read) o (run_checked files r q d.1) h
early_puts files (check r) o (runs q n ring flush read) h d = absurd d
early_puts files (demo x) o (runs q n ring flush read) h d = absurd d
early_puts files (chain x) o (runs q n ring flush read) h d = absurd d

-- ---- a fault of the query's file, and want of memory

unread_fault : (o : Outcome) → IsQueryUnread o → IsFileFault o
unread_fault Done h = h
unread_fault Usage h = h
unread_fault (SecondQueryFault place why) h = h
unread_fault (Unchainable which) h = h
unread_fault (ChainLineRefused place why) h = h
unread_fault (FileCount s g) h = h
unread_fault (QueryFault b c) h = h
unread_fault (LineRefused s n c) h = h
unread_fault (OpenFault f) h = tt
unread_fault (ReadFault f) h = tt
unread_fault (TooWide t n r) h = h
unread_fault WriteFault h = h
unread_fault NoMemory h = h

-- it has a query file, and is no chain
abbrev pub HasQuery : Asked → Type 0
HasQuery (run r) = Unit {0}
HasQuery (check c) = Unit {0}
HasQuery (demo x) = ⊥
HasQuery (chain x) = ⊥

pub lacks_allowed : (files : Contents) (c : Asked) (o : Outcome) (d : Due) → HasQuery c → IsQueryUnread o ⊎ (o ≡ NoMemory) → IsDueFor files c d → Allows d o
lacks_allowed files c o usage a h d = absurd d
lacks_allowed files c o missing a (inl f) d = inl (unread_fault o f)
lacks_allowed files c o missing a (inr m) d = inr m
lacks_allowed files c o (faulty b k) a h d = inr h
lacks_allowed files c o (unlike s g) a h d = inr h
lacks_allowed files c o (shows out) a (inl f) d = inr (inl (unread_fault o f))
lacks_allowed files c o (shows out) a (inr m) d = inr (inr (inr m))
lacks_allowed files (run r) o (tells out count) a h d = absurd d
lacks_allowed files (check r) o (tells out count) a h d = absurd d
lacks_allowed files (demo x) o (tells out count) a h d = absurd a
lacks_allowed files (chain x) o (tells out count) a h d = absurd a
lacks_allowed files c o (runs q n ring flush read) a (inl f) d = inr (inl (unread_fault o f))
lacks_allowed files c o (runs q n ring flush read) a (inr m) d = inr (inr (inr m))

-- want of memory is allowed wherever something is due for a command
pub memory_allowed_for : (files : Contents) (c : Asked) (d : Due) → IsDueFor files c d → Allows d NoMemory
memory_allowed_for files c usage d = absurd d
memory_allowed_for files c missing d = inr refl
memory_allowed_for files c (faulty b k) d = inr (inr refl)
memory_allowed_for files c (unlike s g) d = inr (inr refl)
memory_allowed_for files c (shows out) d = inr (inr (inr refl))
memory_allowed_for files c (tells out count) d = inr (inr refl)
memory_allowed_for files c (runs q n ring flush read) d = inr (inr (inr refl))

-- ---- one text, one plan

-- a run's plan is that of the text that its query file has
pub run_plan : (files : Contents) (r : AskedRun) (q p : Tree) (whole : List ℕ) → HasRun files r q → content_in files r.query ≡ Some whole → HasPlan whole p → q ≡ p
run_plan files r q p whole h e k =
    let same : h.text ≡ whole = let f : Some h.text ≡ Some whole = sym h.there ∙ e in cc in
    one_plan whole q p (subst (λ t. HasPlan t q) same h.plan) k

-- a text with a fault is no text of a run
pub run_or_fault : (files : Contents) (r : AskedRun) (q : Tree) (whole : List ℕ) (byte : ℕ) (cause : Cause) → HasRun files r q → content_in files r.query ≡ Some whole → HasFault whole byte cause → ⊥
run_or_fault files r q whole byte cause h e f =
    let same : h.text ≡ whole = let g : Some h.text ≡ Some whole = sym h.there ∙ e in cc in
    fault_or_plan whole byte cause q f (subst (λ t. HasPlan t q) same h.plan)

pub same_refusal : (b d : ℕ) (c e : Cause) → (b ≡ d) × (c ≡ e) → QueryFault b c ≡ QueryFault d e
same_refusal b d c e h = λ i. QueryFault (h.0 i) (h.1 i)

-- a query file that is there is not missing
pub there_not_missing : (files : Contents) (name whole : List ℕ) → content_in files name ≡ Some whole → content_in files name ≡ None → ⊥
there_not_missing files name whole e n = cc

-- ---- the front of a query file

pub begun_plan : (files : Contents) (name text : List ℕ) (q : Tree) → BeginsFile files name text → HasPlan text q → (whole : List ℕ) × (content_in files name ≡ Some whole) × HasPlan whole q
begun_plan files name text q b p = (b.whole, b.there, front_has_plan b.whole q (subst (λ t. HasPlan t q) b.front p))

pub begun_fault : (files : Contents) (name text : List ℕ) (byte : ℕ) (cause : Cause) → BeginsFile files name text → HasFault text byte cause → (whole : List ℕ) × (content_in files name ≡ Some whole) × HasFault whole byte cause
begun_fault files name text byte cause b f = (b.whole, b.there, front_has_fault b.whole byte cause (subst (λ t. HasFault t byte cause) b.front f))
