-- What both runs of a chain give together.
use Rattle.std.proofs.Common.{◌≡◌, ◌≢◌, ◌≤◌, ℕ, ◌+◌, ◌-◌, List, [], ◌∷◌, length, refl, sym, ◌∙◌, ap, subst, arith}
use Rattle.std.proofs.Math.Path.{transport}
use Rattle.std.specs.Option.{option_map_or}
use Rattle.std.specs.Prelude.{Bool, Option, Some, None, IfSome, ◌/◌, false}
use Rattle.saber_io.specs.Outside.{left_before}
use Rattle.saber_plan.specs.Outputs.{Rose, raised_by, appended-none}
use Rattle.saber_io.specs.declared.feeds.EndMark.{EndMark}
use Rattle.saber_io.specs.declared.feeds.EndMark.TheVariants as marks
use Rattle.saber_plan.specs.declared.plans.Shape.{Shape}
use Rattle.saber_plan.specs.declared.plans.Shape.TheVariants.{Select, Group, Join}
use Rattle.saber_plan.specs.declared.windows.Stream.{Stream}
use Rattle.saber_plan.specs.declared.sizes.Sizes.{Sizes}
use Rattle.saber_plan.specs.Sizes.{limits_of}
use Rattle.saber_plan.specs.Checked.{IsChecked, StreamsFit}
use Rattle.saber_plan.specs.Rows.{Read}
use Rattle.saber_plan.specs.Inputs.{Input, going_on}
use Rattle.saber_plan.specs.Trees.{Tree}
use Rattle.saber_plan.specs.Answers.{text, by_shape, frame}
use Rattle.saber_plan.specs.Tasks.{upto, run_input}
use Rattle.saber_plan.specs.Windows.{Fits}
use Rattle.saber_plan.specs.Needs.{wide, first_open}
use Rattle.saber_pipe.specs.Receipts.{Settled}
use Rattle.saber_laws.proofs.FlushLaws.{tasks_make_all}
use Rattle.saber_laws.proofs.WideLaws.{none_is_wide}
use Rattle.saber_laws.proofs.StepLaws.{no_rows_give_nothing}
use Rattle.saber_laws.proofs.TaskCutLaws.{no_tasks_no_rows}
use Rattle.saber_laws.proofs.WriteLaws.{no_tasks_no_text}
use Rattle.saber_dispatch.specs.declared.inputs.Inputs.{Inputs}
use Rattle.saber_dispatch.specs.declared.inputs.Inputs.TheVariants.{One, Two}
use Rattle.saber_plan.specs.declared.ends.RunEnd.{RunEnd}
use Rattle.saber_plan.specs.declared.ends.RunEnd.TheVariants.{AllRead, Bad, ReadFault, TooWide, WriteFault, NoMemory}
use Rattle.saber_plan.specs.Files.{input_of}
use Rattle.saber_engine.specs.Sources.{each_input, told_by, GaveAll}
use Rattle.saber_engine.specs.Endings.{MayStop}
use Rattle.saber_plan.specs.Runs.{Gives}
use Rattle.saber_chain.specs.Sinks.{SinkSeen, seen_of}
use Rattle.saber_chain.specs.Texts.{rows_between, text_of_both}
use Rattle.saber_chain.specs.Marks.{mark_after, IsWhole}
use Rattle.saber_chain.specs.declared.chained.Chained.{Chained}
use Rattle.saber_chain.specs.Firsts.{RunsFirst, RanFirst}
use Rattle.saber_chain.specs.Seconds.{RunsSecond}
use Rattle.saber_chain.specs.Stops.{SecondStops}
use Rattle.saber_chain.specs.Chains.{Chains, RunsBoth}
use Rattle.saber_chain.proofs.Settling.{settled}

-- ---- one stream alone

two_streams : (streams : List Stream) → StreamsFit Join streams → length streams ≡ 1 → ⊥
two_streams [] fits one = fits
two_streams (s ∷ []) fits one = fits
two_streams (s ∷ t ∷ []) fits one = let no = one in omega arith
two_streams (s ∷ t ∷ u ∷ more) fits one = fits

own_rows : (shape : Shape) (streams : List Stream) → StreamsFit shape streams → length streams ≡ 1 → (t x : ℕ) → t - by_shape shape t t x + 1 ≤ 1
own_rows Select streams fits one t x = omega arith
own_rows Group streams fits one t x = omega arith
own_rows Join streams fits one t x = absurd (two_streams streams fits one)

-- no task of a query over one stream is too wide for a ring
pub none_wide : (q : Tree) → IsChecked q → length q.streams ≡ 1 → (n ring : ℕ) (r : Input) → 1 ≤ ring → wide q n r ring ≡ None
none_wide q checked one n ring r some = none_is_wide q n r ring (λ k below. let own = own_rows q.shape q.streams checked.streams one k (option_map_or (λ p. p / n) (first_open (frame q) (upto n r k)) k) in omega (arith, own, some))

-- ---- whole texts

-- a run with its text whole gives the text of all rows
pub all_rows : (q : Tree) (n ring : ℕ) (read : Read) (end : RunEnd) (tasks : ℕ) (out : List ℕ) → 1 ≤ n → IsWhole end → Gives q n ring false read end tasks out → out ≡ text q (going_on read.rows)
all_rows q n ring read AllRead tasks out some whole gives = let a = gives.assembles in a.answers (λ e. cc) ∙ ap (λ k. text q (upto n (going_on read.rows) k)) (a.all refl) ∙ ap (text q) (tasks_make_all n (going_on read.rows) some)
all_rows q n ring read (Bad side line cause) tasks out some whole gives = let a = gives.assembles in a.answers (λ e. cc) ∙ ap (λ k. text q (upto n (going_on read.rows) k)) (a.all refl) ∙ ap (text q) (tasks_make_all n (going_on read.rows) some)
all_rows q n ring read (ReadFault side) tasks out some whole gives = absurd (let h = whole in cc)
all_rows q n ring read (TooWide task wants) tasks out some whole gives = absurd (let h = whole in cc)
all_rows q n ring read WriteFault tasks out some whole gives = absurd (let h = whole in cc)
all_rows q n ring read NoMemory tasks out some whole gives = absurd (let h = whole in cc)

-- and so do two of them, one over the text of the other
pub both_texts : (first second : Tree) (n ring : ℕ) (read : Read) (end end' : RunEnd) (tasks tasks' : ℕ) (between out : List ℕ) → 1 ≤ n
    → IsWhole end → IsWhole end' → Gives first n ring false read end tasks between → Gives second n ring false (rows_between second between) end' tasks' out
    → out ≡ text_of_both first second (going_on read.rows)
both_texts first second n ring read end end' tasks tasks' between out some whole whole' g g' =
    all_rows second n ring (rows_between second between) end' tasks' out some whole' g'
    ∙ ap (λ b. text second (going_on (rows_between second b).rows)) (all_rows first n ring read end tasks between some whole g)

-- ---- a chain

if_some : {A : Type 0} {P Q : A → Type 0} (o : Option A) → ((x : A) → P x → Q x) → IfSome o P → IfSome o Q
if_some None f h = tt
if_some (Some x) f h = f x h

if_all : {A : Type 0} {P : A → Type 0} (o : Option A) → ((x : A) → P x) → IfSome o P
if_all None f = tt
if_all (Some x) f = f x

module _ {S K : Type 0} (left : S → Option (List ℕ)) (faults : S → ℕ) (written : K → Option (List ℕ)) (sink_faults made : K → ℕ) where
  -- what comes of both runs, where the second one has read what it needs of the first one's text
  pub both_runs : (first second : Tree) (s : Sizes) (had has : Inputs S) (sink sink' : K) (c : Chained S K) (end end' : RunEnd) (tasks tasks' : ℕ) (out taken : List ℕ) (sent mark : Option EndMark)
      → RanFirst left faults first s had has end tasks out sent → RunsSecond second s taken mark (seen_of written made sink) (seen_of written made sink') end' tasks'
      → (end' ≡ WriteFault → Rose (sink_faults sink) (sink_faults sink')) → (end' ≢ WriteFault → sink_faults sink' ≡ sink_faults sink) → sink_faults sink ≤ sink_faults sink'
      → {stopped : Bool} → MayStop end' stopped → c.second_stopped ≡ Some stopped
      → (c.first ≡ end) × (c.second ≡ end') → (c.first_tasks ≡ tasks) × (c.tasks ≡ tasks') → (c.inputs ≡ has) × (c.sink ≡ sink')
      → Settled out (Some (mark_after c.first)) taken mark → RunsBoth left faults written sink_faults made first second s had sink c
  both_runs first second s had has sink sink' c end end' tasks tasks' out taken sent mark ran runs write good rises may same ends counts backs done =
      let f : RunsFirst left faults first s had c.inputs c.first c.first_tasks out = transport (λ i. RunsFirst left faults first s had (sym backs.0 i) (sym ends.0 i) (sym counts.0 i) out) ran.runs in
      let r : RunsSecond second s taken mark (seen_of written made sink) (seen_of written made c.sink) c.second c.tasks = transport (λ i. RunsSecond second s taken mark (seen_of written made sink) (seen_of written made (sym backs.1 i)) (sym ends.1 i) (sym counts.1 i)) runs in
      record {
        between = out;
        runs_first = f;
        runs_second = settled r done;
        write = λ e. subst (λ z. Rose (sink_faults sink) (sink_faults z)) (sym backs.1) (write (sym ends.1 ∙ e));
        write_good = λ n. ap sink_faults backs.1 ∙ good (λ e. n (ends.1 ∙ e));
        writes = subst (λ z. sink_faults sink ≤ sink_faults z) (sym backs.1) rises;
        stopped = transport (λ i. SecondStops c.first (sym ends.1 i) (sym same i)) may;
      }

  -- what both runs give is what a chain gives
  pub chains : (first second : Tree) (s : Sizes) (had : Inputs S) (sink : K) (c : Chained S K) → s.flush ≡ false → 1 ≤ s.task
      → RunsBoth left faults written sink_faults made first second s had sink c
      → Chains first second s (told_by left had) (seen_of written made sink) (seen_of written made c.sink) c
  chains first second s had sink c open_end some b = record {
    between = b.between;
    out = b.runs_second.out;
    written = b.runs_second.written;
    gives_first = subst (λ z. IfSome (told_by left had) (λ fs. Gives first s.task s.ring z (input_of first (limits_of s) fs) c.first c.first_tasks b.between)) open_end b.runs_first.gives;
    gives_second = b.runs_second.gives;
    one_write = b.runs_second.one_write;
    whole_tasks = b.runs_second.whole;
    whole_text = λ w w'. if_some (told_by left had)
        (λ fs g. both_texts first second s.task s.ring (input_of first (limits_of s) fs) c.first c.second c.first_tasks c.tasks b.between b.runs_second.out some w w' g b.runs_second.gives)
        (subst (λ z. IfSome (told_by left had) (λ fs. Gives first s.task s.ring z (input_of first (limits_of s) fs) c.first c.first_tasks b.between)) open_end b.runs_first.gives);
  }

  -- the second query never needs too many tasks' rows
  pub narrow : (first second : Tree) (s : Sizes) (had : Inputs S) (sink : K) (c : Chained S K) → IsChecked second → length second.streams ≡ 1 → 1 ≤ s.ring
      → RunsBoth left faults written sink_faults made first second s had sink c → (task wants : ℕ) → c.second ≡ TooWide task wants → ⊥
  narrow first second s had sink c checked one some b task wants e =
      let read = rows_between second b.between in
      let gives : Gives second s.task s.ring false read (TooWide task wants) c.tasks b.runs_second.out = subst (λ z. Gives second s.task s.ring false read z c.tasks b.runs_second.out) e b.runs_second.gives in
      let clash : None ≡ Some task = sym (none_wide second checked one s.task s.ring (run_input second false read) some) ∙ gives.ends.0 in cc

-- a run that lacks memory before its first task
nothing_given : (q : Tree) → Fits (frame q) → (n ring : ℕ) (read : Read) → Gives q n ring false read NoMemory 0 []
nothing_given q fits n ring read = record {
  ends = tt;
  assembles = record {
    few = omega arith;
    all = λ e. cc;
    before = λ t e. cc;
    answers = λ _. sym (no_rows_give_nothing q fits).text ∙ ap (text q) (sym (no_tasks_no_rows n (run_input q false read)));
    cut = λ e. cc;
  };
}

-- no memory for the pipe
pub no_pipe : (first second : Tree) → Fits (frame first) → Fits (frame second) → (s : Sizes) (files : Option (List (List ℕ))) (had : SinkSeen)
    → {S K : Type 0} (inputs : Inputs S) (sink : K)
    → Chains first second s files had had (record { first = NoMemory; second = NoMemory; second_stopped = None; inputs = inputs; sink = sink; first_tasks = 0; tasks = 0 })
no_pipe first second fits fits' s files had inputs sink = record {
  between = [];
  out = [];
  written = appended-none had.written;
  gives_first = if_all files (λ fs. nothing_given first fits s.task s.ring (input_of first (limits_of s) fs));
  gives_second = nothing_given second fits' s.task s.ring (rows_between second []);
  one_write = ap (raised_by had.writes) (sym (no_tasks_no_text second s.task (run_input second false (rows_between second []))));
  whole_tasks = λ side e. cc;
  whole_text = λ w. absurd (let h : marks.Cut ≡ marks.End = w in cc);
}

given_none : (o : Option (List ℕ)) → o ≡ left_before [] o
given_none None = refl
given_none (Some b) = refl

-- and so nothing is taken
pub takes_none : {X : Type 0} (left : X → Option (List ℕ)) (i : Inputs X) → (taken : List (List ℕ)) × GaveAll (each_input left i) taken (each_input left i)
takes_none left (One x) = ([] ∷ [], (given_none (left x), tt))
takes_none left (Two x y) = ([] ∷ [] ∷ [], (given_none (left x), (given_none (left y), tt)))
