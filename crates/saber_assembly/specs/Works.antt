-- What blocks, pieces and stages are, by the input filled so far.
use Rattle.std.specs.Prelude.{◌≡◌, ◌≢◌, ℕ, ◌*◌, Bool, true, false, ◌++◌, ◌||◌, take, IfSome}
use Rattle.saber_plan.specs.Inputs.{Input}
use Rattle.saber_plan.specs.Trees.{Tree}
use Rattle.saber_plan.specs.Tasks.{upto}
use Rattle.saber_plan.specs.Needs.{free}
use Rattle.saber_fragment.specs.declared.blocks.Block.{Block}
use Rattle.saber_fragment.specs.LookBack.{IsBlock}
use Rattle.saber_assembly.specs.declared.stage.Stage.{Stage}
use Rattle.saber_plan.specs.declared.stages.StageState.TheVariants.{Running}
use Rattle.saber_assembly.specs.declared.work.RunData.{RunData}
use Rattle.saber_assembly.specs.Stages.{IsPieceAt}
use Rattle.saber_plan.specs.Stages.{StageView, Start, Tasks, Keeps}

module _ {O : Type 0} where
  -- the input filled so far
  abbrev pub input_of : RunData O → Input
  input_of told = record { rows = told.rows; ended = told.ended }

  -- the same run with another input
  abbrev pub with_input : RunData O → Input → RunData O
  with_input told r = record told { rows = r.rows; ended = r.ended }

  -- one block more was filled
  abbrev pub with_block : RunData O → Block → RunData O
  with_block told b = with_input told (record { rows = told.rows ++ b.rows; ended = told.ended || b.ended })

  -- the data of the first k tasks
  abbrev pub first_tasks : RunData O → ℕ → RunData O
  first_tasks told k = with_input told (upto told.size (input_of told) k)

  -- where all rows of the input are known, those filled are the rows of its first d tasks
  abbrev pub HasFirstRows : RunData O → ℕ → Type 0
  HasFirstRows told d = IfSome told.all (λ rows. told.rows ≡ take (d * told.size) rows)

  -- the sink at the start
  abbrev pub start_of : RunData O → Start
  start_of told = record { written = told.written; faults = told.faults; writes = told.writes }

module _ {O : Type 0} (plan : O → Tree) where
  -- an input that the plan can be given, in tasks of the run's size
  abbrev pub AreTasks : RunData O → Type 0
  AreTasks told = Tasks (plan told.operator) told.size (input_of told)

  -- the first d tasks have all of it, and their rows are those of the input's first d tasks
  pub record IsTold (told : RunData O) (d : ℕ) : Type 0 where
    pub tasks : AreTasks told
    pub whole : upto told.size (input_of told) d ≡ input_of told
    pub of_input : HasFirstRows told d

  -- the first task whose rows task t needs
  abbrev pub first_needed : RunData O → ℕ → ℕ
  first_needed told t = free (plan told.operator) told.size (input_of told) t

  -- The block of task t, which has its number and tells the first task that is needed. The input did not end before it.
  pub record IsBlockOf (told : RunData O) (t : ℕ) (b : Block) : Type 0 where
    pub tasks : AreTasks told
    pub block : IsBlock (plan told.operator) told.size (input_of told) t b
    pub opens : (upto told.size (input_of told) t).ended ≡ false
    pub number : b.number ≡ t
    pub first : b.first ≡ first_needed (first_tasks told t) t

  -- the piece of task t
  pub record IsPieceOf {P : Type 0} (is_of : O → P → Input → ℕ → ℕ → Type 0) (told : RunData O) (t : ℕ) (p : P) : Type 0 where
    pub tasks : AreTasks told
    pub piece : IsPieceAt told.size (input_of told) t (is_of told.operator p)

  -- the stage has k tasks behind it, and is stopped or runs
  pub record IsStageOf {S K : Type 0} (view : Stage S K → StageView) (taken : O → S → Input → Type 0) (told : RunData O) (k : ℕ) (stopped : Bool)
      (s : Stage S K) : Type 0 where
    pub behind : s.k ≡ k
    pub keeps : Keeps (plan told.operator) told.size (input_of told) (start_of told) (taken told.operator s.store) (view s)
    pub runs : stopped ≡ false → s.state ≡ Running
    pub stops : stopped ≡ true → s.state ≢ Running
