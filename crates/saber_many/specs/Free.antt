-- What stands on a ring of several queries whenever the turn is free, in the words of each.
use Rattle.std.specs.Prelude.{◌^◌, ◌≡◌, ◌≢◌, ◌⊎◌, ◌≤◌, ◌<◌, ℕ, ◌+◌, ◌*◌, ◌%◌, Bool, true, false, List, Option, Some, Vec, slice_index}
use Rattle.std.specs.declared.alloc.Global.{Global}
use Rattle.std.specs.declared.collections.VecDeque.{VecDeque}
use mathlib.Core.Option.{some}
use lib.ListN.{get_elem?}
use Rattle.saber_plan.specs.Inputs.{Input}
use Rattle.saber_plan.specs.Trees.{Tree}
use Rattle.saber_plan.specs.Tasks.{Kept}
use Rattle.saber_plan.specs.Needs.{free}
use Rattle.saber_plan.specs.declared.stages.StageState.TheVariants.{Running}
use Rattle.saber_fragment.specs.declared.blocks.Block.{Block}
use Rattle.saber_fragment.specs.LookBack.{IsBlock}
use Rattle.saber_ring.specs.declared.view.SlotValue.TheVariants as slot
use Rattle.saber_ring.specs.Shows.{RingState, extra}
use Rattle.saber_ring.specs.Plays.{turn_behind}
use Rattle.saber_ring.specs.Laws.{TableOf, IsTable, IsWithOne}
use Rattle.saber_assembly.specs.declared.stage.Stage.{Stage}
use Rattle.saber_assembly.specs.declared.work.RunData.{RunData}
use Rattle.saber_assembly.specs.Stages.{stage_view}
use Rattle.saber_assembly.specs.Works.{input_of, first_tasks, first_needed, HasFirstRows, IsTold, IsBlockOf, IsPieceOf, IsStageOf}
use Rattle.saber_workers.specs.Free.{HasRows, IsHandedIn, IsToDo, IsTaken, HasOut}
use Rattle.saber_many.specs.declared.member.Member.{Member}
use Rattle.saber_many.specs.Sharing.{AreTold, AreRows, ArePieces, AreStages}
use Rattle.saber_many.specs.Labors.{all_upto, each_first}
use Rattle.saber_many.specs.Queries.{IsAlone}

module _ {O P S K : Type 0} (plan : O → Tree) (is_of : O → P → Input → ℕ → ℕ → Type 0) (contents : S → Kept) (taken : O → S → Input → Type 0)
    (written : K → Option (List ℕ)) (faults writes : K → ℕ) where
  -- the work of several queries, by that of each
  abbrev pub AreToldOf : List (RunData O) → ℕ → Type 0
  AreToldOf told d = AreTold (IsTold plan) (IsAlone plan) told d

  abbrev pub AreRowsOf : List (RunData O) → ℕ → Vec Block Global → Type 0
  AreRowsOf told t rows = AreRows (IsBlockOf plan) (IsAlone plan) told t rows.items

  abbrev pub ArePiecesOf : List (RunData O) → ℕ → VecDeque (Option P) Global → Type 0
  ArePiecesOf told t pieces = ArePieces (IsPieceOf plan is_of) told t pieces.items

  abbrev pub AreStagesOf : List (RunData O) → ℕ → Bool → Vec (Member (Stage S K)) Global → Type 0
  AreStagesOf told k stopped stages = AreStages first_tasks (IsStageOf plan (stage_view contents written faults writes) taken) told k stopped stages.items

  -- the tables of the rings of several queries
  abbrev pub SharedTable : Type 0
  SharedTable = TableOf AreToldOf (all_upto first_tasks) (each_first (first_needed plan)) AreRowsOf ArePiecesOf AreStagesOf

  -- the table keeps the ring's rule, over the work of several queries, and shows this state
  abbrev pub KeepsSharedRule : ℕ → SharedTable → RingState (List (RunData O)) → Type 0
  KeepsSharedRule size s b = IsTable AreToldOf (all_upto first_tasks) (each_first (first_needed plan)) AreRowsOf ArePiecesOf AreStagesOf size s b

  module _ (size : ℕ) (s : SharedTable) (b : RingState (List (RunData O))) where
    module _ (j : ℕ) (told : RunData O) where
      -- what query j asked, in tasks of so many rows, and its input filled so far
      abbrev q : Tree
      q = plan told.operator

      abbrev n : ℕ
      n = told.size

      abbrev r : Input
      r = input_of told

      -- of the blocks of all, the one of query j has exactly the rows of its task u
      pub record HasOwnBlock (u : ℕ) (blocks : Vec Block Global) : Type 0 where
        pub block : Block
        pub in_place : get_elem? blocks.items j ≡ some block
        pub rows : IsBlock q n r u block

      -- they are at home, or exactly one seat reads them, for a task that needs them
      abbrev pub AreOwnWhole : ℕ → Type 0
      AreOwnWhole u =
          HasRows size s.words s.homes u (HasOwnBlock u)
          ⊎ IsWithOne AreToldOf (all_upto first_tasks) (each_first (first_needed plan)) AreRowsOf ArePiecesOf AreStagesOf size s b u

      -- of the pieces of all, that of query j is its task's; where there is none, it has the mark
      abbrev pub IsOwnPiece : ℕ → VecDeque (Option P) Global → Type 0
      IsOwnPiece t pieces = (piece : P) → get_elem? pieces.items j ≡ some (Some piece) → IsPieceOf plan is_of (first_tasks told (t + 1)) t piece

      -- With k tasks assembled: of the stages at home this is that of query j. While it goes on it runs, with k tasks behind it; else it stopped
      -- at one of these tasks, or, on a ring that is halted, where all have stopped, maybe at the next one. The text of the tasks behind it is
      -- out. The rows of the first tasks filled are those of the input's first tasks, where its rows are known. The rows of each task that isn't
      -- assembled are whole. Each such task is still to do, or was handed in, and then its piece, or the mark, is at home; where the ring is
      -- halted the first one was taken.
      pub record IsOut (k : ℕ) (halted : Bool) (stages : Vec (Member (Stage S K)) Global) : Type 0 where
        pub member : Member (Stage S K)
        pub in_place : get_elem? stages.items j ≡ some member
        pub goes : member.goes ≡ true → (member.stage.state ≡ Running) × (member.stage.k ≡ k)
        pub stops : member.goes ≡ false → (member.stage.state ≢ Running) × (member.stage.k + 1 ≤ k + extra halted)
        pub halts : halted ≡ true → member.goes ≡ false
        pub out : HasOut plan contents written faults writes told member.stage.k member.stage
        pub of_input : (i : ℕ) → i ≤ b.filled → HasFirstRows (first_tasks told i) i
        pub blocks : (u : ℕ) → free q n r k ≤ u → u < b.filled → AreOwnWhole u
        pub tasks : (t u : ℕ) → k ≤ t → t < b.filled → free q n r t ≤ u → u ≤ t → AreOwnWhole u
        pub cells : (t : ℕ) → k ≤ t → t < b.filled → IsToDo size s.words s.homes t ⊎ (IsHandedIn size s.words s.homes t (IsOwnPiece t) ⊎ ((t ≡ k) × (halted ≡ true) × IsTaken size s.words s.homes t))

    -- the stages are at home, and it is so for each query, by the data that the ring has of it; the word says whether the ring is halted
    pub record EachIsOut (k : ℕ) : Type 0 where
      pub shown : turn_behind (slice_index s.words 0) ≡ k
      pub stages : Vec (Member (Stage S K)) Global
      pub at_home : get_elem? s.homes 0 ≡ some (some (slot.Stage stages))
      pub halted : Bool
      pub runs : halted ≡ false → slice_index s.words 0 ≡ 2 * k
      pub stops : halted ≡ true → slice_index s.words 0 ≡ 2 * k + 2 ^ 62
      pub each : (j : ℕ) (told : RunData O) → get_elem? b.told j ≡ some told → IsOut j told k halted stages

  -- so it is for each size of the ring, table and state, whenever the word of the turn shows that it is free
  abbrev pub FreeSharedTurnsAreAtRest : Type 0
  FreeSharedTurnsAreAtRest =
      (size : ℕ) (s : SharedTable) (b : RingState (List (RunData O))) → KeepsSharedRule size s b → slice_index s.words 0 % 2 ≡ 0
      → EachIsOut size s b b.assembled
