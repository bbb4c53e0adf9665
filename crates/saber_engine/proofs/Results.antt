-- What a run gives, and of what it took.
use Rattle.std.proofs.Common.{◌≡◌, ◌≢◌, ℕ, ◌≤◌, List, [], ◌∷◌, length, map, refl, ◌∙◌, ap, subst, arith}
use Rattle.std.specs.Prelude.{Option, Some, None, IfSome, IsSome, option_map, option_and_then}
use Rattle.saber_io.specs.Outside.{left_before}
use Rattle.saber_plan.specs.Outputs.{raised_by, Rose, appended_text, appended-none}
use Rattle.saber_plan.specs.Sizes.{FileLimits, limits_of}
use Rattle.saber_plan.specs.declared.rows.Side.{Side}
use Rattle.saber_plan.specs.declared.sizes.Sizes.{Sizes}
use Rattle.saber_plan.specs.declared.windows.Stream.{Stream}
use Rattle.saber_plan.specs.Inputs.{Input}
use Rattle.saber_plan.specs.Rows.{Read}
use Rattle.saber_plan.specs.Trees.{Tree}
use Rattle.saber_plan.specs.Answers.{frame}
use Rattle.saber_plan.specs.Windows.{Fits}
use Rattle.saber_plan.specs.Tasks.{Kept}
use Rattle.saber_assembly.specs.declared.stage.Stage.{Stage}
use Rattle.saber_assembly.specs.Stages.{stage_view}
use Rattle.saber_assembly.specs.Works.{IsTold, input_of as told_input, first_tasks, IsStageOf}
use Rattle.saber_crew.specs.declared.dispatch.Dispatched.{Dispatched}
use Rattle.saber_crew.specs.Runs.{RunsTo}
use Rattle.saber_dispatch.specs.declared.ends.End.{End}
use Rattle.saber_dispatch.specs.declared.ends.End.TheVariants as cut
use Rattle.saber_dispatch.specs.declared.inputs.Inputs.{Inputs}
use Rattle.saber_dispatch.specs.declared.inputs.Inputs.TheVariants.{One, Two}
use Rattle.saber_dispatch.specs.declared.cutter.Cutter.{Cutter}
use Rattle.saber_dispatch.specs.declared.keeper.Keeper.{Keeper}
use Rattle.saber_dispatch.specs.Sources.{Lefts, RoseAt, NoneFell, each_input}
use Rattle.saber_dispatch.specs.Readings.{Reading, one, two, Suits, ReadMoves}
use Rattle.saber_dispatch.specs.Cutting.{Cuts, fresh, fresh_on}
use Rattle.saber_dispatch.specs.Telling as telling
use Rattle.saber_dispatch.specs.Leaving.{GaveAll}
use Rattle.saber_dispatch.proofs.TaskBlocks.{blocks_are_tasks}
use Rattle.saber_dispatch.proofs.Leavings.{faults_leave_whole_tasks}
use Rattle.saber_plan.specs.declared.ends.RunEnd.{RunEnd}
use Rattle.saber_plan.specs.declared.ends.RunEnd.TheVariants.{ReadFault, WriteFault, NoMemory}
use Rattle.saber_engine.specs.Sources.{told_by, rows_left}
use Rattle.saber_plan.specs.Files.{input_of}
use Rattle.saber_plan.specs.Runs.{Gives, IsClean, writes_over}
use Rattle.saber_engine.specs.Gives.{ReadsWhole}
use Rattle.saber_engine.specs.Endings.{end_of}
use Rattle.saber_engine.specs.Supplying.{HasGiven, first_told}
use Rattle.saber_engine.proofs.Counts.{none_same}
use Rattle.saber_engine.proofs.Assembled.{op_is}
use Rattle.saber_engine.proofs.Reaches.{by_fault, clean_end, lack_not_write}
use Rattle.saber_engine.proofs.Comings.{GivenBy, Came, came_to, gives_nothing, writes_nothing}

-- ---- what a run comes to

-- over inputs that had so much left and such counts of faults, and a sink that had written so much and had such a count
pub record Done (q : Tree) (s : Sizes) (had has : Lefts) (before now : List ℕ) (w : Option (List ℕ)) (f times : ℕ) (end : RunEnd) (tasks : ℕ) (written : Option (List ℕ)) (faults count : ℕ) : Type 0 where
  pub out : List ℕ
  pub written_is : written ≡ appended_text w out
  pub gives : (files : List (List ℕ)) → Suits (fresh q (limits_of s)) had → had ≡ map Some files → Gives q s.task s.ring s.flush (input_of q (limits_of s) files) end tasks out
  pub whole : (side : Side) → end ≡ ReadFault side → ReadsWhole q s.task (limits_of s) tasks had has
  pub read : (side : Side) → end ≡ ReadFault side → RoseAt side before now
  pub write : end ≡ WriteFault → Rose f faults
  pub read_good : IsClean end → now ≡ before
  pub write_good : end ≢ WriteFault → faults ≡ f
  pub reads : NoneFell before now
  pub writes : f ≤ faults
  pub one_write : (files : List (List ℕ)) → Suits (fresh q (limits_of s)) had → had ≡ map Some files → count ≡ raised_by times (writes_over q s files end tasks)

module _ {O S K : Type 0} (plan : O → Tree) (contents : S → Kept) (taken : O → S → Input → Type 0) (wrote : K → Option (List ℕ)) (failed writes : K → ℕ)
    (op : O) (s : Sizes) (w : Option (List ℕ)) (f times : ℕ) (had has : Lefts) (before now : List ℕ) (c : Cutter) (k : Keeper) (end : Option End) (stage : Stage S K) (fed : Dispatched)
    (r : RunsTo (IsTold plan) first_tasks (IsStageOf plan (stage_view contents wrote failed writes) taken) (HasGiven plan s had has before now c k end) (IsSome end) (first_told op s.task w f times (rows_left plan s had op)) stage fed) where
  abbrev q : Tree
  q = plan op

  abbrev all : Input
  all = told_input r.told

  cuts : Cuts q s had has c all
  cuts = subst (λ o. Cuts (plan o) s had has c all) (op_is plan contents taken wrote failed writes op s.task w f times (rows_left plan s had op) (HasGiven plan s had has before now c k end) (IsSome end) stage fed r) r.is_given.cuts

  given_by : GivenBy s c end all r.count
  given_by = record { size = cuts.sizes.task.0; count = r.is_given.count ∙ cuts.count; ended = r.is_given.ended }

  came : Came q s c end all stage.state fed.over stage.k w (wrote stage.sink) f (failed stage.sink) times (writes stage.sink)
  came = came_to plan contents taken wrote failed writes op s w f times (rows_left plan s had op) (HasGiven plan s had has before now c k end) (IsSome end) c end stage fed r given_by

  told_so : (files : List (List ℕ)) → Suits (fresh q (limits_of s)) had → had ≡ map Some files → telling.AreTasks q s c all (input_of q (limits_of s) files)
  told_so files suits e = blocks_are_tasks q s files has c all (subst (Suits (fresh q (limits_of s))) e suits) (subst (λ l. Cuts q s l has c all) e cuts)

  leaves : (side : Side) → end_of stage.state fed.over end ≡ ReadFault side → ReadsWhole q s.task (limits_of s) stage.k had has
  leaves side e =
      let b = by_fault stage.state fed.over end side e in
      let x = faults_leave_whole_tasks q s had has c all side cuts (r.is_given.ended (cut.ReadFault side) b.ended) in
      record { taken = x.taken; left = x.left; tasks_are = let k = came.all_behind side e in omega (arith, x.count, k) }

  -- the run is over
  pub done : Done q s had has before now w f times (end_of stage.state fed.over end) stage.k (wrote stage.sink) (failed stage.sink) (writes stage.sink)
  done = record {
    out = came.out;
    written_is = came.written_is;
    gives = λ files suits e. came.gives (input_of q (limits_of s) files) (told_so files suits e);
    whole = leaves;
    read = λ side e. r.is_given.counted.cause side (by_fault stage.state fed.over end side e).ended;
    write = came.write;
    read_good = λ h. r.is_given.counted.good (λ side e. clean_end stage.state fed.over end h side e);
    write_good = came.write_good;
    reads = r.is_given.counted.fell;
    writes = came.writes;
    one_write = λ files suits e. came.one_write (input_of q (limits_of s) files) (told_so files suits e);
  }

-- ---- a run that had no memory to begin

no_fault : (side : Side) → NoMemory ≡ ReadFault side → ⊥
no_fault side e = cc

pub done_nothing : (q : Tree) → Fits (frame q) → (s : Sizes) (had : Lefts) (before : List ℕ) (w : Option (List ℕ)) (f times : ℕ) → Done q s had had before before w f times NoMemory 0 w f times
done_nothing q fits s had before w f times = record {
  out = [];
  written_is = appended-none w;
  gives = λ files suits e. gives_nothing q fits s (input_of q (limits_of s) files);
  whole = λ side e. absurd (no_fault side e);
  read = λ side e. absurd (no_fault side e);
  write = λ e. absurd (lack_not_write e);
  read_good = λ h. absurd h;
  write_good = λ _. refl;
  reads = none_same before;
  writes = omega arith;
  one_write = λ files suits e. writes_nothing q s (input_of q (limits_of s) files) times;
}

-- ---- inputs

-- there are as many as the query has streams
suits_on : {X : Type 0} (q : Tree) (limits : FileLimits) (left : X → Option (List ℕ)) (inputs : Inputs X) (streams : List Stream) → length (each_input left inputs) ≡ length streams → Suits (fresh_on q limits streams) (each_input left inputs)
suits_on q limits left (One a) [] e = absurd (omega (arith, e))
suits_on q limits left (One a) (s ∷ []) e = tt
suits_on q limits left (One a) (s ∷ t ∷ more) e = absurd (omega (arith, e))
suits_on q limits left (Two a b) [] e = absurd (omega (arith, e))
suits_on q limits left (Two a b) (s ∷ []) e = absurd (omega (arith, e))
suits_on q limits left (Two a b) (s ∷ t ∷ more) e = tt

pub suits : {X : Type 0} (q : Tree) (limits : FileLimits) (left : X → Option (List ℕ)) (inputs : Inputs X) → length (each_input left inputs) ≡ length q.streams → Suits (fresh q limits) (each_input left inputs)
suits q limits left inputs e = suits_on q limits left inputs q.streams e

-- where all tell what they have left
pub if_told : {X : Type 0} (P : List (List ℕ) → Type 0) (left : X → Option (List ℕ)) (inputs : Inputs X) → ((files : List (List ℕ)) → each_input left inputs ≡ map Some files → P files) → IfSome (told_by left inputs) P
if_told P left (One a) h = by_case (left a) refl where
  by_case : (o : Option (List ℕ)) → left a ≡ o → IfSome (option_map (λ b. b ∷ []) o) P
  by_case None e = tt
  by_case (Some b) e = h (b ∷ []) (ap (λ o. o ∷ []) e)
if_told P left (Two a b) h = by_case (left a) refl (left b) refl where
  by_case : (o : Option (List ℕ)) → left a ≡ o → (p : Option (List ℕ)) → left b ≡ p → IfSome (option_and_then (λ x. option_map (λ y. x ∷ y ∷ []) p) o) P
  by_case None e p f = tt
  by_case (Some x) e None f = tt
  by_case (Some x) e (Some y) f = h (x ∷ y ∷ []) (λ i. e i ∷ f i ∷ [])

-- what inputs have left is an end of what they had
pub took : {X : Type 0} (out : Read → Read) (left : X → Option (List ℕ)) (i j : Inputs X) (a b : Reading) → ReadMoves out a b (each_input left i) (each_input left j) → (taken : List (List ℕ)) × GaveAll (each_input left i) taken (each_input left j)
took out left (One x) (One y) (one a) (one b) m = (m.taken ∷ [], (m.left, tt))
took out left (Two x z) (Two y u) (two a) (two b) m = (m.left.taken ∷ m.right.taken ∷ [], (m.left.left, (m.right.left, tt)))
took out left (One x) (One y) (one a) (two b) m = absurd m
took out left (One x) (One y) (two a) (one b) m = absurd m
took out left (One x) (One y) (two a) (two b) m = absurd m
took out left (One x) (Two y u) (one a) (one b) m = absurd m
took out left (One x) (Two y u) (one a) (two b) m = absurd m
took out left (One x) (Two y u) (two a) (one b) m = absurd m
took out left (One x) (Two y u) (two a) (two b) m = absurd m
took out left (Two x z) (One y) (one a) (one b) m = absurd m
took out left (Two x z) (One y) (one a) (two b) m = absurd m
took out left (Two x z) (One y) (two a) (one b) m = absurd m
took out left (Two x z) (One y) (two a) (two b) m = absurd m
took out left (Two x z) (Two y u) (one a) (one b) m = absurd m
took out left (Two x z) (Two y u) (one a) (two b) m = absurd m
took out left (Two x z) (Two y u) (two a) (one b) m = absurd m

given_none : (o : Option (List ℕ)) → o ≡ left_before [] o
given_none None = refl
given_none (Some b) = refl

pub took_none : {X : Type 0} (left : X → Option (List ℕ)) (i : Inputs X) → (taken : List (List ℕ)) × GaveAll (each_input left i) taken (each_input left i)
took_none left (One x) = ([] ∷ [], (given_none (left x), tt))
took_none left (Two x y) = ([] ∷ [] ∷ [], (given_none (left x), (given_none (left y), tt)))
