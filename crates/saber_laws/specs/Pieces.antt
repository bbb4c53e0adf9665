-- Laws of the pieces of tasks, and of the text that they make.
use Rattle.std.specs.Prelude.{◌≡◌, ℕ, ◌≤◌, ◌+◌, List, [], ◌∷◌, ◌++◌}
use Rattle.std.specs.List.{range_with_len}
use Rattle.std.specs.FinMap.{empty}
use Rattle.saber_plan.specs.Trees.{Tree}
use Rattle.saber_plan.specs.Inputs.{Input, first_arrivals, going_on}
use Rattle.saber_plan.specs.Windows.{Fits, Ordered, no_rows}
use Rattle.saber_plan.specs.Answers.{frame, text}
use Rattle.saber_plan.specs.Tasks.{Kept, task_start, upto, unclosed, kept_behind, nothing_kept, plain_added, added_text, piece_between, written_by, left_by}

-- ---- one piece, after the text and the open parts of the arrivals before it

-- the text goes on with what the arrivals add, however the query answers
abbrev pub TextGoesOn : Type 0
TextGoesOn = (q : Tree) → Fits (frame q) → (r : Input) (x y : ℕ) → Ordered no_rows r.rows → x ≤ y
    → text q (first_arrivals r y) ≡ text q (first_arrivals r x) ++ added_text q r x y

-- where windows print their answers as they are, or rows theirs, the piece has what they add
abbrev pub PiecesPrint : Type 0
PiecesPrint = (q : Tree) → Fits (frame q) → (r : Input) (x y : ℕ) → Ordered no_rows r.rows → x ≤ y
    → plain_added q r x y ≡ written_by q (unclosed q (first_arrivals r x)) (piece_between q r x y)

-- and what it leaves are the open parts then
abbrev pub OpenGoesOn : Type 0
OpenGoesOn = (q : Tree) → Fits (frame q) → (r : Input) (x y : ℕ) → Ordered no_rows r.rows → x ≤ y
    → unclosed q (first_arrivals r y) ≡ left_by q (unclosed q (first_arrivals r x)) (piece_between q r x y)

-- no row has a text, or a part that is open, or anything else that is kept
pub record Nothing (q : Tree) : Type 0 where
  pub text : text q (going_on []) ≡ []
  pub parts : unclosed q (going_on []) ≡ empty
  pub kept : kept_behind q (going_on []) ≡ nothing_kept

abbrev pub NoRowsGiveNothing : Type 0
NoRowsGiveNothing = (q : Tree) → Fits (frame q) → Nothing q

-- ---- the pieces of tasks, one after another, however the query answers

-- what is written, and what is kept from task to task
pub record Standing : Type 0 where
  pub written : List ℕ
  pub kept : Kept

-- before the first task
abbrev pub no_task_behind : List ℕ → Standing
no_task_behind start = record { written = start; kept = nothing_kept }

-- behind the first k tasks
abbrev pub tasks_behind : Tree → ℕ → Input → List ℕ → ℕ → Standing
tasks_behind q n r start k = record { written = start ++ text q (upto n r k); kept = kept_behind q (upto n r k) }

-- Task k's piece is taken in: where what the arrivals before the task leave is kept, its own add to the text, and what they leave is kept then.
pub record TakesTask (q : Tree) (n : ℕ) (r : Input) (k : ℕ) (old new : Standing) : Type 0 where
  pub written : old.kept ≡ kept_behind q (upto n r k) → new.written ≡ old.written ++ added_text q r (task_start n r k) (task_start n r (k + 1))
  pub kept : old.kept ≡ kept_behind q (upto n r k) → new.kept ≡ kept_behind q (upto n r (k + 1))

-- those of these tasks are, one after another
abbrev pub TakesTasks : Tree → ℕ → Input → List ℕ → Standing → Standing → Type 0
TakesTasks q n r [] old new = old ≡ new
TakesTasks q n r (k ∷ ks) old new = (next : Standing) × TakesTask q n r k old next × TakesTasks q n r ks next new

-- those of the first k tasks make their text, and leave what is to be kept behind them
abbrev pub TasksMakeText : Type 0
TasksMakeText = (q : Tree) → Fits (frame q) → (n : ℕ) (r : Input) → Ordered no_rows r.rows → (start : List ℕ) (k : ℕ) (made : Standing)
    → TakesTasks q n r (range_with_len 0 k) (no_task_behind start) made → made ≡ tasks_behind q n r start k
