-- Laws of the input's end: what it does, and that without it all is by the rows.
use Rattle.std.specs.Prelude.{◌≡◌, ℕ, ◌≤◌, [], Bool, true}
use Rattle.std.specs.FinMap.{empty}
use Rattle.saber_plan.specs.declared.windows.Mark.{Mark}
use Rattle.saber_plan.specs.Trees.{Tree}
use Rattle.saber_plan.specs.Inputs.{Input}
use Rattle.saber_plan.specs.Windows.{Frame, end_mark, begun, begun_count, closed_count}
use Rattle.saber_plan.specs.Tasks.{upto, task_count, unclosed}

-- ---- with it

-- the end begins no window
pub record BeginsNone (f : Frame) (ended : Bool) (m : Mark) : Type 0 where
  pub tests : (i : ℕ) → begun f i (end_mark ended m) ≡ begun f i m
  pub counts : begun_count f (end_mark ended m) ≡ begun_count f m

abbrev pub EndsBeginNone : Type 0
EndsBeginNone = (f : Frame) (ended : Bool) (m : Mark) → BeginsNone f ended m

-- and closes those that are begun
abbrev pub EndsCloseAll : Type 0
EndsCloseAll = (f : Frame) (m : Mark) → closed_count f (end_mark true m) ≡ begun_count f m

-- behind the end nothing is open
abbrev pub NothingOpenBehind : Type 0
NothingOpenBehind = (q : Tree) (r : Input) → r.ended ≡ true → unclosed q r ≡ empty

-- all tasks together have the whole input
abbrev pub TasksMakeAll : Type 0
TasksMakeAll = (n : ℕ) (r : Input) → 1 ≤ n → upto n r (task_count n r) ≡ r
