-- What comes of a run, whatever gave its tasks.
use Rattle.std.proofs.Common.{◌≡◌, ◌≢◌, ℕ, suc, ◌+◌, ◌≤◌, List, [], ◌++◌, refl, sym, ◌∙◌, ap, subst, arith}
use Rattle.std.specs.Prelude.{Option, Some, None}
use Rattle.saber_plan.specs.Outputs.{raised_by, Rose, appended_text}
use Rattle.saber_plan.specs.declared.rows.Row.{Row}
use Rattle.saber_plan.specs.declared.rows.Side.{Side}
use Rattle.saber_plan.specs.declared.sizes.Sizes.{Sizes}
use Rattle.saber_plan.specs.Inputs.{Input}
use Rattle.saber_plan.specs.Rows.{Read}
use Rattle.saber_plan.specs.Trees.{Tree}
use Rattle.saber_plan.specs.Tasks.{Kept, upto, task_count, run_input}
use Rattle.saber_plan.specs.Answers.{text, frame}
use Rattle.saber_plan.specs.Windows.{Fits}
use Rattle.saber_laws.proofs.TaskCutLaws.{first_of_first, no_tasks_no_rows}
use Rattle.saber_laws.proofs.StepLaws.{no_rows_give_nothing}
use Rattle.saber_laws.proofs.WriteLaws.{first_with_text, no_tasks_no_text}
use Rattle.saber_assembly.specs.declared.stage.Stage.{Stage}
use Rattle.saber_plan.specs.declared.stages.StageState.{StageState}
use Rattle.saber_plan.specs.declared.stages.StageState.TheVariants as states
use Rattle.saber_assembly.specs.declared.work.RunData.{RunData}
use Rattle.saber_assembly.specs.Stages.{stage_view}
use Rattle.saber_plan.specs.Stages.{Start, After}
use Rattle.saber_plan.specs.Runs.{tasks_with_text, writes_of, IsCut, Gives, Assembles, Reach, all_tasks, before_task, first_tasks as some_tasks, cut_off}
use Rattle.saber_assembly.specs.Works.{IsTold, input_of as told_input, first_tasks, IsStageOf}
use Rattle.saber_crew.specs.declared.dispatch.Dispatched.{Dispatched}
use Rattle.saber_crew.specs.declared.dispatch.Over.{Over}
use Rattle.saber_crew.specs.declared.dispatch.Over.TheVariants as over_by
use Rattle.saber_crew.specs.Runs.{RunsTo}
use Rattle.saber_dispatch.specs.declared.ends.End.{End}
use Rattle.saber_dispatch.specs.declared.ends.End.TheVariants as cut
use Rattle.saber_dispatch.specs.declared.cutter.Cutter.{Cutter}
use Rattle.saber_dispatch.specs.Cutting.{end_of as cutter_end}
use Rattle.saber_dispatch.specs.Telling as telling
use Rattle.saber_plan.specs.declared.ends.RunEnd.{RunEnd}
use Rattle.saber_plan.specs.declared.ends.RunEnd.TheVariants.{AllRead, Bad, ReadFault, TooWide, WriteFault, NoMemory}
use Rattle.saber_engine.specs.Endings.{given_end, end_of}
use Rattle.saber_engine.specs.Supplying.{first_told}
use Rattle.saber_engine.proofs.Counts.{first_few}
use Rattle.saber_engine.proofs.Assembled.{after, few, few_next, all_behind}
use Rattle.saber_engine.proofs.Reaches.{some_not_all, some_not_before, some_not_cut, all_not_before, all_not_cut, before_not_all, before_not_cut, same_task, cut_not_all, cut_not_before, by_fault, by_write}

-- so many tasks were given, those of this input, and the cutter tells their end, once they ended
pub record GivenBy (s : Sizes) (c : Cutter) (end : Option End) (all : Input) (d : ℕ) : Type 0 where
  pub size : 1 ≤ s.task
  pub count : d ≡ task_count s.task all
  pub ended : (e : End) → end ≡ Some e → cutter_end c ≡ Some e

-- What a run comes to of which the blocks have this input: what went out, over rows of which they are the first tasks, and what the sink tells.
-- Where they ended by a fault of reading, all of them are behind.
pub record Came (q : Tree) (s : Sizes) (c : Cutter) (end : Option End) (all : Input) (state : StageState) (over : Over) (tasks : ℕ) (w written : Option (List ℕ)) (f faults times count : ℕ) : Type 0 where
  pub out : List ℕ
  pub written_is : written ≡ appended_text w out
  pub gives : (rows : Read) → telling.AreTasks q s c all rows → Gives q s.task s.ring s.flush rows (end_of state over end) tasks out
  pub all_behind : (side : Side) → end_of state over end ≡ ReadFault side → tasks ≡ task_count s.task all
  pub write : end_of state over end ≡ WriteFault → Rose f faults
  pub write_good : end_of state over end ≢ WriteFault → faults ≡ f
  pub writes : f ≤ faults
  pub one_write : (rows : Read) → telling.AreTasks q s c all rows → count ≡ raised_by times (writes_of q s.task (run_input q s.flush rows) (end_of state over end) tasks)

-- a run writes once for each task that has text, unless its end is a write that failed
by_no_fault : (q : Tree) (n : ℕ) (r : Input) (e : RunEnd) (k : ℕ) → e ≢ WriteFault → writes_of q n r e k ≡ tasks_with_text q n r k
by_no_fault q n r AllRead k u = refl
by_no_fault q n r (Bad side line cause) k u = refl
by_no_fault q n r (ReadFault side) k u = refl
by_no_fault q n r (TooWide task need) k u = refl
by_no_fault q n r WriteFault k u = absurd (u refl)
by_no_fault q n r NoMemory k u = refl

not_failed : states.Running ≡ states.SinkFailed → ⊥
not_failed e = cc

module _ {O S K : Type 0} (plan : O → Tree) (contents : S → Kept) (taken : O → S → Input → Type 0) (wrote : K → Option (List ℕ)) (failed writes : K → ℕ)
    (op : O) (s : Sizes) (w : Option (List ℕ)) (f times : ℕ) (known_rows : Option (List Row)) (IsGiven : RunData O → ℕ → Type 0) (IsOver : Type 0) (c : Cutter) (end : Option End) (stage : Stage S K) (fed : Dispatched)
    (r : RunsTo (IsTold plan) first_tasks (IsStageOf plan (stage_view contents wrote failed writes) taken) IsGiven IsOver (first_told op s.task w f times known_rows) stage fed)
    (given : GivenBy s c end (told_input r.told) r.count) where
  abbrev q : Tree
  q = plan op

  abbrev all : Input
  all = told_input r.told

  abbrev start : Start
  start = record { written = w; faults = f; writes = times }

  count : r.count ≡ task_count s.task all
  count = given.count

  behind : stage.k ≤ r.count
  behind = few plan contents taken wrote failed writes op s.task w f times known_rows IsGiven IsOver stage fed r

  behind_next : stage.state ≡ states.SinkFailed → stage.k + 1 ≤ r.count
  behind_next = few_next plan contents taken wrote failed writes op s.task w f times known_rows IsGiven IsOver stage fed r

  stands : After q s.task all start (stage_view contents wrote failed writes stage) stage.state
  stands = after plan contents taken wrote failed writes op s.task w f times known_rows IsGiven IsOver stage fed r

  stands_so : (state : StageState) → stage.state ≡ state → After q s.task all start (stage_view contents wrote failed writes stage) state
  stands_so state e = subst (After q s.task all start (stage_view contents wrote failed writes stage)) e stands

  whole_behind : stage.state ≡ states.Running → fed.over ≡ over_by.AllGiven → stage.k ≡ task_count s.task all
  whole_behind h e = (all_behind plan contents taken wrote failed writes op s.task w f times known_rows IsGiven IsOver stage fed r h e).0 ∙ count

  abbrev so_far : List ℕ
  so_far = text q (upto s.task all stage.k)

  -- ---- over rows of which the blocks are the first tasks
  module _ (rows : Read) (t : telling.AreTasks q s c all rows) where
    abbrev whole_input : Input
    whole_input = run_input q s.flush rows

    known : (j : ℕ) → j ≤ r.count → upto s.task all j ≡ upto s.task whole_input j
    known j le = ap (λ i. upto s.task i j) t.tasks ∙ first_of_first s.task whole_input (task_count s.task all) j (subst (λ k. j ≤ k) count le)

    most : r.count ≤ task_count s.task whole_input
    most =
        let l : task_count s.task (upto s.task whole_input (task_count s.task all)) ≤ task_count s.task whole_input = first_few s.task whole_input (task_count s.task all) given.size in
        let same : task_count s.task all ≡ task_count s.task (upto s.task whole_input (task_count s.task all)) = ap (task_count s.task) t.tasks in
        omega (arith, l, same, count)

    known_text : tasks_with_text q s.task all stage.k ≡ tasks_with_text q s.task whole_input stage.k
    known_text = ap (λ i. tasks_with_text q s.task i stage.k) t.tasks ∙ first_with_text q s.task whole_input (task_count s.task all) stage.k (subst (λ k. stage.k ≤ k) count behind)

    -- how often was written
    counted : (state : StageState) → stage.state ≡ state → writes stage.sink ≡ raised_by times (writes_of q s.task whole_input (end_of state fed.over end) stage.k)
    counted states.Running h =
        (stands_so states.Running h).3
        ∙ ap (raised_by times) (known_text ∙ sym (by_no_fault q s.task whole_input (end_of states.Running fed.over end) stage.k (λ e. not_failed (by_write states.Running fed.over end e))))
    counted states.SinkFailed h = (stands_so states.SinkFailed h).3 ∙ ap (λ m. raised_by times (suc m)) known_text
    counted states.NoMemory h = (stands_so states.NoMemory h).2 ∙ ap (raised_by times) known_text

    plain : (reach : Reach) → (reach ≡ all_tasks → stage.k ≡ task_count s.task whole_input) → ((u : ℕ) → reach ≡ before_task u → stage.k ≡ u) → (reach ≡ cut_off → ⊥) → Assembles q s.task whole_input reach stage.k so_far
    plain reach whole at u = record {
      few = omega (arith, behind, most);
      all = whole;
      before = at;
      answers = λ _. ap (text q) (known stage.k behind);
      cut = λ e. absurd (u e);
    }

    some : Assembles q s.task whole_input some_tasks stage.k so_far
    some = plain some_tasks (λ e. absurd (some_not_all e)) (λ u e. absurd (some_not_before u e)) some_not_cut

    lacks : Gives q s.task s.ring s.flush rows NoMemory stage.k so_far
    lacks = record { ends = tt; assembles = some }

    fails : stage.state ≡ states.SinkFailed → (out : List ℕ) → IsCut q s.task all stage.k out → Gives q s.task s.ring s.flush rows WriteFault stage.k out
    fails h out is = record {
      ends = tt;
      assembles = record {
        few = omega (arith, behind, most);
        all = λ e. absurd (cut_not_all e);
        before = λ u e. absurd (cut_not_before u e);
        answers = λ u. absurd (u refl);
        cut = λ _. record {
          more = is.more;
          rest = is.rest;
          out_is = is.out_is ∙ ap (λ z. text q z ++ is.more) (known stage.k behind);
          next_is = sym (ap (text q) (known (stage.k + 1) (behind_next h))) ∙ is.next_is ∙ ap (λ z. text q z ++ (is.more ++ is.rest)) (known stage.k behind);
        };
      };
    }

    -- all that was given is behind
    gave : stage.k ≡ task_count s.task all → (e : End) → cutter_end c ≡ Some e → Gives q s.task s.ring s.flush rows (given_end (Some e)) stage.k so_far
    gave k cut.AllRead e =
        let x : telling.EndsAs q s (Some cut.AllRead) all rows = subst (λ o. telling.EndsAs q s o all rows) e t.ends in
        record { ends = (x.1, x.0.near); assembles = plain all_tasks (λ _. k ∙ ap (task_count s.task) x.0.whole) (λ u i. absurd (all_not_before u i)) all_not_cut }
    gave k (cut.Bad side line cause) e =
        let x : telling.EndsAs q s (Some (cut.Bad side line cause)) all rows = subst (λ o. telling.EndsAs q s o all rows) e t.ends in
        record { ends = (x.1, x.0.near); assembles = plain all_tasks (λ _. k ∙ ap (task_count s.task) x.0.whole) (λ u i. absurd (all_not_before u i)) all_not_cut }
    gave k (cut.ReadFault side) e = record { ends = tt; assembles = some }
    gave k (cut.TooWide task needs) e =
        let x : telling.EndsAs q s (Some (cut.TooWide task needs)) all rows = subst (λ o. telling.EndsAs q s o all rows) e t.ends in
        record { ends = (x.first, x.needs_is); assembles = plain (before_task task) (λ i. absurd (before_not_all task i)) (λ u i. k ∙ sym x.next ∙ same_task task u i) (before_not_cut task) }
    gave k cut.NoMemory e = lacks

  abbrev Result_of : RunEnd → Type 0
  Result_of e = (out : List ℕ) × (wrote stage.sink ≡ appended_text w out) × ((rows : Read) → telling.AreTasks q s c all rows → Gives q s.task s.ring s.flush rows e stage.k out)

  came : (state : StageState) → stage.state ≡ state → (over : Over) → fed.over ≡ over → (o : Option End) → end ≡ o → Result_of (end_of state over o)
  came states.Running h over_by.AllGiven g None e = (so_far, (stands_so states.Running h).0, λ rows t. lacks rows t)
  came states.Running h over_by.AllGiven g (Some x) e = (so_far, (stands_so states.Running h).0, λ rows t. gave rows t (whole_behind h g) x (given.ended x e))
  came states.Running h over_by.Stopped g o e = (so_far, (stands_so states.Running h).0, λ rows t. lacks rows t)
  came states.Running h over_by.NoMemory g o e = (so_far, (stands_so states.Running h).0, λ rows t. lacks rows t)
  came states.SinkFailed h over g o e = let a = (stands_so states.SinkFailed h).0 in (a.out, a.written_is, λ rows t. fails rows t h a.out a.is_cut)
  came states.NoMemory h over g o e = (so_far, (stands_so states.NoMemory h).0, λ rows t. lacks rows t)

  sink_good : (state : StageState) → stage.state ≡ state → end_of state fed.over end ≢ WriteFault → failed stage.sink ≡ f
  sink_good states.Running h u = (stands_so states.Running h).2
  sink_good states.SinkFailed h u = absurd (u refl)
  sink_good states.NoMemory h u = (stands_so states.NoMemory h).1

  sink_rises : (state : StageState) → stage.state ≡ state → f ≤ failed stage.sink
  sink_rises states.Running h = let a = (stands_so states.Running h).2 in omega (arith, a)
  sink_rises states.SinkFailed h = (stands_so states.SinkFailed h).2
  sink_rises states.NoMemory h = let a = (stands_so states.NoMemory h).1 in omega (arith, a)

  -- what it comes to
  pub came_to : Came q s c end all stage.state fed.over stage.k w (wrote stage.sink) f (failed stage.sink) times (writes stage.sink)
  came_to =
      let x = came stage.state refl fed.over refl end refl in
      record {
        out = x.0;
        written_is = x.1;
        gives = x.2;
        all_behind = λ side e. let b = by_fault stage.state fed.over end side e in whole_behind b.runs b.given;
        write = λ e. (stands_so states.SinkFailed (by_write stage.state fed.over end e)).1;
        write_good = sink_good stage.state refl;
        writes = sink_rises stage.state refl;
        one_write = λ rows t. counted rows t stage.state refl;
      }

-- ---- a run that had no memory to begin

pub gives_nothing : (q : Tree) → Fits (frame q) → (s : Sizes) (rows : Read) → Gives q s.task s.ring s.flush rows NoMemory 0 []
gives_nothing q fits s rows = record {
  ends = tt;
  assembles = record {
    few = omega arith;
    all = λ i. absurd (some_not_all i);
    before = λ u i. absurd (some_not_before u i);
    answers = λ _. sym (ap (text q) (no_tasks_no_rows s.task (run_input q s.flush rows)) ∙ (no_rows_give_nothing q fits).text);
    cut = λ i. absurd (some_not_cut i);
  };
}

pub writes_nothing : (q : Tree) (s : Sizes) (rows : Read) (times : ℕ) → times ≡ raised_by times (writes_of q s.task (run_input q s.flush rows) NoMemory 0)
writes_nothing q s rows times = ap (raised_by times) (sym (no_tasks_no_text q s.task (run_input q s.flush rows)))
