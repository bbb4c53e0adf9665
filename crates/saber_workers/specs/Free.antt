-- What stands whenever the turn is free: what the sink has, what is kept, and that the rows of each task that isn't assembled are whole, and its piece, where it was handed in.
use Rattle.std.specs.Prelude.{◌^◌, ◌≡◌, ◌≢◌, ◌⊎◌, ◌≤◌, ◌<◌, ℕ, ◌+◌, ◌*◌, ◌%◌, List, Option, slice_index}
use mathlib.Core.Option.{some}
use mathlib.Core.Option as maybe
use lib.ListN.{get_elem?}
use Rattle.saber_plan.specs.Outputs.{raised_by, appended_text}
use Rattle.saber_plan.specs.Runs.{tasks_with_text}
use Rattle.saber_plan.specs.Inputs.{Input}
use Rattle.saber_plan.specs.Trees.{Tree}
use Rattle.saber_plan.specs.Answers.{text}
use Rattle.saber_plan.specs.Tasks.{Kept, upto, kept_behind}
use Rattle.saber_plan.specs.Needs.{free}
use Rattle.saber_fragment.specs.LookBack.{IsBlock}
use Rattle.saber_ring.specs.declared.view.SlotValue.{SlotValue}
use Rattle.saber_ring.specs.declared.view.SlotValue.TheVariants as slot
use Rattle.saber_ring.specs.Shows.{RingState}
use Rattle.saber_ring.specs.Plays.{turn_behind}
use Rattle.saber_ring.specs.Laws.{TableOf, IsTable, IsWithOne, block_of, cell_of}
use Rattle.saber_assembly.specs.declared.stage.Stage.{Stage}
use Rattle.saber_plan.specs.declared.stages.StageState.TheVariants.{Running}
use Rattle.saber_assembly.specs.declared.work.RunData.{RunData}
use Rattle.saber_assembly.specs.Stages.{stage_view}
use Rattle.saber_plan.specs.Stages.{After}
use Rattle.saber_assembly.specs.Works.{input_of, first_tasks, start_of, first_needed, HasFirstRows, IsTold, IsBlockOf, IsPieceOf, IsStageOf}

-- ---- blocks and cells, by their words and slots

module _ {R P S : Type 0} (size : ℕ) (words : List ℕ) (homes : List (maybe.Option (SlotValue R P S))) where
  -- block u is at home, with rows that are its own
  pub record HasRows (u : ℕ) (is_own : R → Type 0) : Type 0 where
    pub word : slice_index words (block_of size u) ≡ 4 * u + 2
    pub rows : R
    pub in_place : get_elem? homes (block_of size u) ≡ some (some (slot.Rows rows))
    pub own : is_own rows

  -- task t was handed in with its piece, which is at home
  pub record HasPiece (t : ℕ) (is_own : P → Type 0) : Type 0 where
    pub word : slice_index words (cell_of size t) ≡ 8 * t + 4
    pub piece : P
    pub in_place : get_elem? homes (cell_of size t) ≡ some (some (slot.Piece piece))
    pub own : is_own piece

  -- or with the mark of want of memory, which has no value
  pub record HasMark (t : ℕ) : Type 0 where
    pub word : slice_index words (cell_of size t) ≡ 8 * t + 6
    pub in_place : get_elem? homes (cell_of size t) ≡ some (some slot.Empty)

  abbrev pub IsHandedIn : ℕ → (P → Type 0) → Type 0
  IsHandedIn t is_own = HasPiece t is_own ⊎ HasMark t

  -- it is ready, or held by a seat
  abbrev pub IsToDo : ℕ → Type 0
  IsToDo t = (slice_index words (cell_of size t) ≡ 8 * t + 2) ⊎ (slice_index words (cell_of size t) ≡ 8 * t + 3)

  -- it was taken, with its piece or with the mark
  abbrev pub IsTaken : ℕ → Type 0
  IsTaken t = (slice_index words (cell_of size t) ≡ 8 * t + 5) ⊎ (slice_index words (cell_of size t) ≡ 8 * t + 7)

-- ---- the stage

module _ {O S K : Type 0} (plan : O → Tree) (contents : S → Kept) (written : K → Option (List ℕ)) (faults writes : K → ℕ) (told : RunData O) where
  abbrev asked : Tree
  asked = plan told.operator

  abbrev filled : Input
  filled = input_of told

  -- With k tasks behind it: while it runs the sink has exactly what it had at the start and then the text of the first k tasks' rows, by one
  -- write for each of them that has text, and what is kept is exactly what is to be kept behind them; a stopped one wrote as `After` says.
  pub record HasOut (k : ℕ) (stage : Stage S K) : Type 0 where
    pub behind : stage.k ≡ k
    pub sink : stage.state ≡ Running → written stage.sink ≡ appended_text told.written (text asked (upto told.size filled k))
    pub kept : stage.state ≡ Running → contents stage.store ≡ kept_behind asked (upto told.size filled k)
    pub good : stage.state ≡ Running → faults stage.sink ≡ told.faults
    pub writes_are : stage.state ≡ Running → writes stage.sink ≡ raised_by told.writes (tasks_with_text asked told.size filled k)
    pub stopped : stage.state ≢ Running → After asked told.size filled (start_of told) (stage_view contents written faults writes stage) stage.state

-- ---- the ring of a query

module _ {O P S K : Type 0} (plan : O → Tree) (is_of : O → P → Input → ℕ → ℕ → Type 0) (contents : S → Kept) (taken : O → S → Input → Type 0)
    (written : K → Option (List ℕ)) (faults writes : K → ℕ) where
  -- the tables of the rings of queries
  abbrev pub QueryTable : Type 0
  QueryTable = TableOf (IsTold plan) first_tasks (first_needed plan) (IsBlockOf plan) (IsPieceOf plan is_of) (IsStageOf plan (stage_view contents written faults writes) taken)

  -- the table keeps the ring's rule, over the work of a query, and shows this state
  abbrev pub KeepsRule : ℕ → QueryTable → RingState (RunData O) → Type 0
  KeepsRule size s b =
      IsTable (IsTold plan) first_tasks (first_needed plan) (IsBlockOf plan) (IsPieceOf plan is_of) (IsStageOf plan (stage_view contents written faults writes) taken) size s b

  module _ (size : ℕ) (s : QueryTable) (b : RingState (RunData O)) where
    -- what was asked, in tasks of so many rows, and the input filled so far
    abbrev q : Tree
    q = plan b.told.operator

    abbrev n : ℕ
    n = b.told.size

    abbrev r : Input
    r = input_of b.told

    -- block u is at home, with exactly the rows of task u, or exactly one seat reads it, for a task that needs it
    abbrev pub AreWhole : ℕ → Type 0
    AreWhole u =
        HasRows size s.words s.homes u (IsBlock q n r u)
        ⊎ IsWithOne (IsTold plan) first_tasks (first_needed plan) (IsBlockOf plan) (IsPieceOf plan is_of) (IsStageOf plan (stage_view contents written faults writes) taken) size s b u

    -- With k tasks assembled, of n rows each: the stage is at home, and the text of the first k tasks' rows is out. The rows of the first tasks
    -- filled, of those assembled too, are those of the input's first tasks, where its rows are known. The rows of each task that isn't assembled
    -- are whole: each block from the first that task k needs to the last one filled is at home, with the rows of its own task,
    -- or with one reader. Each such task is still to do, or was handed in, and then its piece, or the mark, is at home; where the stage stopped
    -- the first one was taken.
    pub record FirstAreOut (k : ℕ) : Type 0 where
      pub shown : turn_behind (slice_index s.words 0) ≡ k
      pub stage : Stage S K
      pub at_home : get_elem? s.homes 0 ≡ some (some (slot.Stage stage))
      pub out : HasOut plan contents written faults writes b.told k stage
      pub of_input : (j : ℕ) → j ≤ b.filled → HasFirstRows (first_tasks b.told j) j
      pub runs : stage.state ≡ Running → slice_index s.words 0 ≡ 2 * k
      pub stops : stage.state ≢ Running → slice_index s.words 0 ≡ 2 * k + 2 ^ 62
      pub blocks : (u : ℕ) → free q n r k ≤ u → u < b.filled → AreWhole u
      pub tasks : (t u : ℕ) → k ≤ t → t < b.filled → free q n r t ≤ u → u ≤ t → AreWhole u
      pub cells : (t : ℕ) → k ≤ t → t < b.filled
          → IsToDo size s.words s.homes t ⊎ (IsHandedIn size s.words s.homes t (IsPieceOf plan is_of (first_tasks b.told (t + 1)) t) ⊎ ((t ≡ k) × (stage.state ≢ Running) × IsTaken size s.words s.homes t))

  -- so it is for each size of the ring, table and state, whenever the word of the turn shows that it is free
  abbrev pub FreeTurnsAreAtRest : Type 0
  FreeTurnsAreAtRest =
      (size : ℕ) (s : QueryTable) (b : RingState (RunData O)) → KeepsRule size s b → slice_index s.words 0 % 2 ≡ 0
      → FirstAreOut size s b b.assembled
