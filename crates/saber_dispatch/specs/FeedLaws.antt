-- Laws of the blocks that a cutter over a feed gave.
use Rattle.std.specs.Prelude.{◌≡◌, ◌≤◌, ◌*◌, ◌/◌, ℕ, length, List, [], ◌∷◌, ◌++◌, Option, Some, Bool}
use Rattle.saber_io.specs.declared.feeds.EndMark.{EndMark}
use Rattle.saber_io.specs.declared.feeds.EndMark.TheVariants as marks
use Rattle.saber_io.specs.Feeds.{Refills}
use Rattle.saber_plan.specs.declared.rows.Side.{Side}
use Rattle.saber_plan.specs.declared.sizes.Sizes.{Sizes}
use Rattle.saber_plan.specs.Sizes.{limits_of}
use Rattle.saber_plan.specs.Inputs.{Input, input, going_on}
use Rattle.saber_plan.specs.Tasks.{upto, task_count}
use Rattle.saber_plan.specs.Trees.{Tree}
use Rattle.saber_dispatch.specs.declared.ends.End.TheVariants.{ReadFault}
use Rattle.saber_dispatch.specs.declared.fed_cutter.FedCutter.{FedCutter}
use Rattle.saber_dispatch.specs.Feeding.{CutsFed, fed_end_of}
use Rattle.saber_dispatch.specs.Telling.{AreNear, AreTasks}
use Rattle.saber_plan.specs.Files.{input_of, wholes}

-- a feed that is refilled has given what it gave before
abbrev pub RefillsKeep : Type 0
RefillsKeep = (q : Tree) (s : Sizes) (taken taken' waiting waiting' : List ℕ) (mark mark' : Option EndMark) (c : FedCutter) (r : Input) (more : Bool) →
    CutsFed q s taken waiting mark c r → Refills taken taken' waiting waiting' mark mark' more → CutsFed q s taken' waiting' mark' c r

-- no block's task is too wide, and a task that is told in place of its block is the first one that is
abbrev pub FedBlocksAreNear : Type 0
FedBlocksAreNear = (q : Tree) (s : Sizes) (taken waiting : List ℕ) (mark : Option EndMark) (c : FedCutter) (r : Input) →
    CutsFed q s taken waiting mark c r → AreNear q s c.cutter r

-- a file that goes on from these bytes, and is these bytes where the feed has ended
pub record GoesOn (taken : List ℕ) (mark : Option EndMark) (all : List ℕ) : Type 0 where
  pub more : List ℕ
  pub all_is : all ≡ taken ++ more
  pub ended : mark ≡ Some marks.End → more ≡ []

-- the blocks given are the first tasks of each file that goes on from what was taken
abbrev pub FedBlocksAreTasks : Type 0
FedBlocksAreTasks = (q : Tree) (s : Sizes) (taken waiting all : List ℕ) (mark : Option EndMark) (c : FedCutter) (r : Input) →
    CutsFed q s taken waiting mark c r → GoesOn taken mark all → AreTasks q s c.cutter r (input_of q (limits_of s) (all ∷ []))

-- at least every whole task of the whole lines of these bytes is in a block
pub record LeavesWhole (q : Tree) (s : Sizes) (taken : List ℕ) (r : Input) : Type 0 where
  pub count : length (input (wholes q (limits_of s) (taken ∷ []))).rows / s.task ≤ task_count s.task r
  pub tasks : (k : ℕ) → k * s.task ≤ length (input (wholes q (limits_of s) (taken ∷ []))).rows
      → upto s.task r k ≡ upto s.task (going_on (input (wholes q (limits_of s) (taken ∷ []))).rows) k

-- so it is where the feed was cut off
abbrev pub CutsLeaveWholeTasks : Type 0
CutsLeaveWholeTasks = (q : Tree) (s : Sizes) (taken waiting : List ℕ) (mark : Option EndMark) (c : FedCutter) (r : Input) (side : Side) →
    CutsFed q s taken waiting mark c r → fed_end_of c ≡ Some (ReadFault side) → LeavesWhole q s taken r
