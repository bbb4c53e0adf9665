-- Laws of needs: how far back a task looks, and what it makes of the rows that it needs.
use Rattle.std.specs.Prelude.{◌≡◌, ℕ, ◌≤◌, ◌<◌, None}
use Rattle.saber_plan.specs.Trees.{Tree}
use Rattle.saber_plan.specs.Inputs.{Input}
use Rattle.saber_plan.specs.Windows.{Fits, Ordered, no_rows}
use Rattle.saber_plan.specs.Answers.{frame}
use Rattle.saber_plan.specs.Tasks.{task_start, upto, task_count, piece}
use Rattle.saber_plan.specs.Needs.{free, need, wide, piece_here, back_rows, task_rows, task_ends, back_mark}

-- ---- the rows that a task needs are enough

-- and for its piece
abbrev pub NeedsMakePieces : Type 0
NeedsMakePieces = (q : Tree) → Fits (frame q) → (n : ℕ) (r : Input) (t : ℕ) → Ordered no_rows r.rows → 1 ≤ n
    → piece_here q (back_mark q n r t) (back_rows q n r t) (task_rows n r t) (task_ends n r t) ≡ piece q n r t

-- ---- rows that are added

-- what task t looks back on is there before later tasks are: after the first d tasks, with t at most d
pub record NeedKept (q : Tree) (n : ℕ) (r : Input) (d t : ℕ) : Type 0 where
  pub begins : task_start n (upto n r d) t ≡ task_start n r t
  pub free_pointer : free q n (upto n r d) t ≡ free q n r t
  pub mark : back_mark q n (upto n r d) t ≡ back_mark q n r t
  pub rows : back_rows q n (upto n r d) t ≡ back_rows q n r t

abbrev pub NeedsStay : Type 0
NeedsStay = (q : Tree) (n : ℕ) (r : Input) (d t : ℕ) → 1 ≤ n → t ≤ d → NeedKept q n r d t

-- ---- tasks that need too many

-- and there is none, where no task does
abbrev pub NoneIsWide : Type 0
NoneIsWide = (q : Tree) (n : ℕ) (r : Input) (most : ℕ) → ((k : ℕ) → k < task_count n r → need q n r k ≤ most) → wide q n r most ≡ None
