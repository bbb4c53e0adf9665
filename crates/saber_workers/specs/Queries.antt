-- What the operator of a query has of a task.
use Rattle.std.specs.Prelude.{◌≡◌, ℕ, Bool, false, List, take, Option}
use Rattle.saber_plan.specs.Inputs.{Input}
use Rattle.saber_plan.specs.Trees.{Tree}
use Rattle.saber_plan.specs.Tasks.{Kept, task_start, upto}
use Rattle.saber_fragment.specs.declared.blocks.Block.{Block}
use Rattle.saber_fragment.specs.declared.blocks.Earlier.{Earlier}
use Rattle.saber_fragment.specs.Drafts.{EndWith, Sight}
use Rattle.saber_fragment.specs.LookBack.{sight_to}
use Rattle.saber_assembly.specs.declared.stage.Stage.{Stage}
use Rattle.saber_assembly.specs.declared.work.RunData.{RunData}
use Rattle.saber_assembly.specs.Stages.{stage_view}
use Rattle.saber_assembly.specs.Works.{first_tasks, first_needed, input_of, AreTasks, IsBlockOf, IsPieceOf, IsStageOf}
use Rattle.saber_workers.specs.Labors.{CanLookBack, LooksBack, IsNext, Absorbs}

-- the data are about this operator
abbrev pub Suits : {O : Type 0} → O → RunData O → Type 0
Suits op told = told.operator ≡ op

module _ {O D : Type 0} (plan : O → Tree) (has_seen : O → D → Sight → Type 0) where
  -- The draft of task t has its own rows, and those before them from the first that the task needs up to block u. The input did not end
  -- before the task, and the rows that its own block has of those before are the last of them.
  pub record HasBlocks (op : O) (told : RunData O) (t u : ℕ) (draft : D) : Type 0 where
    pub tasks : AreTasks plan told
    pub opens : (upto told.size (input_of told) t).ended ≡ false
    pub earlier : Earlier
    pub earlier_are : EndWith (take (task_start told.size (input_of told) t) told.rows) earlier
    pub seen : has_seen op draft (sight_to (plan told.operator) told.size (input_of told) t earlier u)

  module _ (op : O) where
    -- the block is the next of those that the draft's task needs before its own
    abbrev pub CanLookBackOn : D → Block → Type 0
    CanLookBackOn draft block = CanLookBack first_tasks (first_needed plan) (IsBlockOf plan) (Suits op) (HasBlocks op) draft block

    -- the draft then has that one too
    abbrev pub LooksBackOn : D → Block → Bool → D → Type 0
    LooksBackOn old block looked_back new = LooksBack first_tasks (first_needed plan) (IsBlockOf plan) (Suits op) (HasBlocks op) old block looked_back new

module _ {O S K P : Type 0} (plan : O → Tree) (is_of : O → P → Input → ℕ → ℕ → Type 0) (contents : S → Kept)
    (taken : O → S → Input → Type 0) (written : K → Option (List ℕ)) (faults writes : K → ℕ) (op : O) where
  -- the piece is of the task that comes next to the stage, which runs
  abbrev pub IsNextPiece : Stage S K → Option P → Type 0
  IsNextPiece stage piece =
      IsNext first_tasks (IsPieceOf plan is_of) (IsStageOf plan (stage_view contents written faults writes) taken) (Suits op) stage piece

  -- the stage goes on by the piece, or is stopped
  abbrev pub AbsorbsPiece : Stage S K → Option P → Stage S K → Bool → Type 0
  AbsorbsPiece old piece new goes =
      Absorbs first_tasks (IsPieceOf plan is_of) (IsStageOf plan (stage_view contents written faults writes) taken) (Suits op) old piece new goes
