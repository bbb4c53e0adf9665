-- What a run over a feed gives, and how it ends.
use Rattle.std.proofs.Common.{◌≡◌, ◌≢◌, ℕ, ◌≤◌, Bool, true, false, List, [], ◌∷◌, refl, sym, ◌∙◌, subst, arith}
use Rattle.std.specs.Prelude.{Option, Some, None, IsSome, if◌then◌else◌}
use Rattle.std.specs.Int.{div_ceil}
use Rattle.saber_plan.specs.Outputs.{raised_by, Rose, appended_text, appended-none}
use Rattle.saber_io.specs.declared.feeds.EndMark.TheVariants as marks
use Rattle.saber_plan.specs.Facts.Counts.{tasks_have_rows}
use Rattle.saber_plan.specs.Sizes.{limits_of}
use Rattle.saber_plan.specs.declared.rows.Side.{Side}
use Rattle.saber_plan.specs.declared.sizes.Sizes.{Sizes}
use Rattle.saber_plan.specs.Inputs.{Input, going_on}
use Rattle.saber_plan.specs.Trees.{Tree}
use Rattle.saber_plan.specs.Answers.{frame}
use Rattle.saber_plan.specs.Windows.{Fits}
use Rattle.saber_plan.specs.Tasks.{Kept}
use Rattle.saber_assembly.specs.declared.stage.Stage.{Stage}
use Rattle.saber_plan.specs.declared.stages.StageState.{StageState}
use Rattle.saber_plan.specs.declared.stages.StageState.TheVariants as states
use Rattle.saber_assembly.specs.Stages.{stage_view}
use Rattle.saber_assembly.specs.Works.{IsTold, input_of as told_input, first_tasks, IsStageOf}
use Rattle.saber_crew.specs.declared.dispatch.Dispatched.{Dispatched}
use Rattle.saber_crew.specs.declared.dispatch.Over.{Over}
use Rattle.saber_crew.specs.declared.dispatch.Over.TheVariants as over_by
use Rattle.saber_crew.specs.Runs.{RunsTo}
use Rattle.saber_dispatch.specs.declared.ends.End.{End}
use Rattle.saber_dispatch.specs.declared.ends.End.TheVariants as cut
use Rattle.saber_dispatch.specs.declared.fed_cutter.FedCutter.{FedCutter}
use Rattle.saber_dispatch.specs.declared.keeper.Keeper.{Keeper}
use Rattle.saber_dispatch.specs.Keeping.{CountsRows}
use Rattle.saber_dispatch.specs.Cutting.{is_due, told_end}
use Rattle.saber_dispatch.specs.Feeding.{CutsFed, CutsNothingFed, fed_end_of}
use Rattle.saber_dispatch.specs.FedReadings.{EndTold}
use Rattle.saber_dispatch.specs.FeedLaws.{GoesOn}
use Rattle.saber_dispatch.proofs.FedTasks.{fed_blocks_are_tasks, cuts_leave_whole_tasks}
use Rattle.saber_plan.specs.declared.ends.RunEnd.{RunEnd}
use Rattle.saber_plan.specs.declared.ends.RunEnd.TheVariants.{AllRead, ReadFault, WriteFault, NoMemory}
use Rattle.saber_plan.specs.Files.{input_of}
use Rattle.saber_plan.specs.Runs.{Gives, IsClean, writes_over}
use Rattle.saber_engine.specs.Endings.{given_end, end_of}
use Rattle.saber_engine.specs.Supplying.{first_told}
use Rattle.saber_engine.specs.FedRuns.{TakesWhole}
use Rattle.saber_engine.specs.FedSupplying.{FeedView, HasFed}
use Rattle.saber_engine.proofs.Passed.{kept_none}
use Rattle.saber_engine.proofs.Assembled.{op_is}
use Rattle.saber_engine.proofs.Reaches.{by_fault, clean_end, lack_not_write}
use Rattle.saber_engine.proofs.Comings.{GivenBy, Came, came_to, gives_nothing, writes_nothing}

-- ---- a run before its first block

none_some : {A : Type 0} (x : A) → ◌≡◌ {A = Option A} None (Some x) → ⊥
none_some x e = cc

-- no block was given
pub fed_none : {O : Type 0} (plan : O → Tree) (op : O) (s : Sizes) (v : FeedView) (w : Option (List ℕ)) (f times : ℕ) (c : FedCutter) (k : Keeper) → CutsNothingFed (plan op) s c → fed_end_of c ≡ None → v.waiting ≡ v.taken → 1 ≤ s.task → k.kept ≡ None → CountsRows k (plan op) [] → HasFed plan s v.faults v c k None (first_told op s.task w f times None) 0
fed_none plan op s v w f times c k nothing open_still waits some kept counts = record {
  cuts = subst (λ z. CutsFed (plan op) s v.taken z v.mark c (going_on [])) (sym waits) (nothing v.taken v.mark);
  size = refl;
  all = refl;
  count = let few : div_ceil 0 s.task ≤ 0 = tasks_have_rows s.task 0 some in omega (arith, few);
  kept = λ _. kept_none k kept;
  placed = λ _. counts;
  ended = λ e i. absurd (none_some e i);
  sound = λ _ side i. none_some (cut.ReadFault side) (sym open_still ∙ i);
  counted = record { rises = omega arith; good = λ _. refl; cause = λ side i. absurd (none_some (cut.ReadFault side) i) };
}

-- ---- ends

-- all is read only where the blocks end so
all_given : (end : Option End) → given_end end ≡ AllRead → end ≡ Some cut.AllRead
all_given None e = absurd (let h = e in cc)
all_given (Some cut.AllRead) e = refl
all_given (Some (cut.Bad s l c)) e = absurd (let h = e in cc)
all_given (Some (cut.ReadFault s)) e = absurd (let h = e in cc)
all_given (Some (cut.TooWide t n)) e = absurd (let h = e in cc)
all_given (Some cut.NoMemory) e = absurd (let h = e in cc)

lack_not_all : NoMemory ≡ AllRead → ⊥
lack_not_all e = cc

fault_not_all : WriteFault ≡ AllRead → ⊥
fault_not_all e = cc

by_all : (state : StageState) (over : Over) (end : Option End) → end_of state over end ≡ AllRead → end ≡ Some cut.AllRead
by_all states.Running over_by.AllGiven end e = all_given end e
by_all states.Running over_by.Stopped end e = absurd (lack_not_all e)
by_all states.Running over_by.NoMemory end e = absurd (lack_not_all e)
by_all states.SinkFailed over end e = absurd (fault_not_all e)
by_all states.NoMemory over end e = absurd (lack_not_all e)

-- an end that is told is the cutter's
told_is : (flush : Bool) (count : ℕ) (o : Option End) (e : End) → told_end flush count o ≡ Some e → o ≡ Some e
told_is flush count None e h = h
told_is flush count (Some x) e h = by_case (is_due flush count x) h where
  by_case : (b : Bool) → (if b then None else Some x) ≡ Some e → Some x ≡ Some e
  by_case true h = absurd (none_some e h)
  by_case false h = h

-- ---- what a run comes to

-- over a feed, seen so at its end, with such a count of faults when the run began, and a sink that had written so much and had such a count
pub record FedDone (q : Tree) (s : Sizes) (v : FeedView) (before : ℕ) (w : Option (List ℕ)) (f times : ℕ) (end : RunEnd) (tasks : ℕ) (written : Option (List ℕ)) (faults count : ℕ) : Type 0 where
  pub out : List ℕ
  pub written_is : written ≡ appended_text w out
  pub gives : (all : List ℕ) → GoesOn v.taken v.mark all → Gives q s.task s.ring s.flush (input_of q (limits_of s) (all ∷ [])) end tasks out
  pub whole : (side : Side) → end ≡ ReadFault side → TakesWhole q s.task (limits_of s) tasks v.taken
  pub all : end ≡ AllRead → v.mark ≡ Some marks.End
  pub cut : (side : Side) → end ≡ ReadFault side → v.mark ≡ Some marks.Cut
  pub read : (side : Side) → end ≡ ReadFault side → Rose before v.faults
  pub write : end ≡ WriteFault → Rose f faults
  pub read_good : IsClean end → v.faults ≡ before
  pub write_good : end ≢ WriteFault → faults ≡ f
  pub reads : before ≤ v.faults
  pub writes : f ≤ faults
  pub one_write : (all : List ℕ) → GoesOn v.taken v.mark all → count ≡ raised_by times (writes_over q s (all ∷ []) end tasks)

module _ {O S K : Type 0} (plan : O → Tree) (contents : S → Kept) (taken : O → S → Input → Type 0) (wrote : K → Option (List ℕ)) (failed writes : K → ℕ)
    (op : O) (s : Sizes) (some : 1 ≤ s.task) (w : Option (List ℕ)) (f times : ℕ) (v : FeedView) (before : ℕ) (c : FedCutter) (k : Keeper) (end : Option End) (stage : Stage S K) (fed : Dispatched)
    (r : RunsTo (IsTold plan) first_tasks (IsStageOf plan (stage_view contents wrote failed writes) taken) (HasFed plan s before v c k end) (IsSome end) (first_told op s.task w f times None) stage fed) where
  abbrev q : Tree
  q = plan op

  abbrev all_input : Input
  all_input = told_input r.told

  cuts : CutsFed q s v.taken v.waiting v.mark c all_input
  cuts = subst (λ o. CutsFed (plan o) s v.taken v.waiting v.mark c all_input) (op_is plan contents taken wrote failed writes op s.task w f times None (HasFed plan s before v c k end) (IsSome end) stage fed r) r.is_given.cuts

  given_by : GivenBy s c.cutter end all_input r.count
  given_by = record { size = some; count = r.is_given.count; ended = r.is_given.ended }

  came : Came q s c.cutter end all_input stage.state fed.over stage.k w (wrote stage.sink) f (failed stage.sink) times (writes stage.sink)
  came = came_to plan contents taken wrote failed writes op s w f times None (HasFed plan s before v c k end) (IsSome end) c.cutter end stage fed r given_by

  leaves : (side : Side) → end_of stage.state fed.over end ≡ ReadFault side → TakesWhole q s.task (limits_of s) stage.k v.taken
  leaves side e =
      let b = by_fault stage.state fed.over end side e in
      let x = cuts_leave_whole_tasks q s v.taken v.waiting v.mark c all_input side cuts (r.is_given.ended (cut.ReadFault side) b.ended) in
      record { tasks_are = let k = came.all_behind side e in omega (arith, x.count, k) }

  -- what the feed told where the blocks ended so
  told : (e : End) → end ≡ Some e → EndTold e v.waiting v.mark
  told e is = cuts.agrees.told e (told_is c.cutter.flush c.cutter.number c.cutter.ended e (r.is_given.ended e is))

  -- the run is over
  pub fed_done : FedDone q s v before w f times (end_of stage.state fed.over end) stage.k (wrote stage.sink) (failed stage.sink) (writes stage.sink)
  fed_done = record {
    out = came.out;
    written_is = came.written_is;
    gives = λ bytes on. came.gives (input_of q (limits_of s) (bytes ∷ [])) (fed_blocks_are_tasks q s v.taken v.waiting bytes v.mark c all_input cuts on);
    whole = leaves;
    all = λ e. told cut.AllRead (by_all stage.state fed.over end e);
    cut = λ side e. (told (cut.ReadFault side) (by_fault stage.state fed.over end side e).ended).1;
    read = λ side e. r.is_given.counted.cause side (by_fault stage.state fed.over end side e).ended;
    write = came.write;
    read_good = λ h. r.is_given.counted.good (λ side e. clean_end stage.state fed.over end h side e);
    write_good = came.write_good;
    reads = r.is_given.counted.rises;
    writes = came.writes;
    one_write = λ bytes on. came.one_write (input_of q (limits_of s) (bytes ∷ [])) (fed_blocks_are_tasks q s v.taken v.waiting bytes v.mark c all_input cuts on);
  }

-- ---- a run that had no memory to begin

no_fault : (side : Side) → NoMemory ≡ ReadFault side → ⊥
no_fault side e = cc

pub fed_nothing : (q : Tree) → Fits (frame q) → (s : Sizes) (v : FeedView) (w : Option (List ℕ)) (f times : ℕ) → FedDone q s v v.faults w f times NoMemory 0 w f times
fed_nothing q fits s v w f times = record {
  out = [];
  written_is = appended-none w;
  gives = λ bytes on. gives_nothing q fits s (input_of q (limits_of s) (bytes ∷ []));
  whole = λ side e. absurd (no_fault side e);
  all = λ e. absurd (lack_not_all e);
  cut = λ side e. absurd (no_fault side e);
  read = λ side e. absurd (no_fault side e);
  write = λ e. absurd (lack_not_write e);
  read_good = λ h. absurd h;
  write_good = λ _. refl;
  reads = omega arith;
  writes = omega arith;
  one_write = λ bytes on. writes_nothing q s (input_of q (limits_of s) (bytes ∷ [])) times;
}
