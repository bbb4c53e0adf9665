-- Laws of what a task gives, its parts apart by kind.
use Rattle.std.specs.Prelude.{◌≡◌, ◌≢◌, ℕ, ◌+◌, ◌≤◌, [], slice_range, T, Some}
use Rattle.std.specs.Ordering.{nat_cmp}
use Rattle.std.specs.FinMap.{get, is_sorted}
use Rattle.saber_plan.specs.declared.plans.Shape.TheVariants.{Join}
use Rattle.saber_plan.specs.Trees.{Tree}
use Rattle.saber_plan.specs.Inputs.{Input, first_arrivals}
use Rattle.saber_plan.specs.Windows.{Fits, Ordered, no_rows, mark_at}
use Rattle.saber_plan.specs.Answers.{frame}
use Rattle.saber_plan.specs.Parts.{Part, part}
use Rattle.saber_plan.specs.Tasks.{task_start, unclosed, piece_between}
use Rattle.saber_plan.specs.Needs.{back_mark, back_rows, task_rows, task_ends}
use Rattle.saber_plan.specs.Shares.{entries_in, piece_in, shares_here, shares_between, handed_here, handed_between}

-- two positions of an input whose timestamps do not fall, under windows as a checked query has them
pub record Between (q : Tree) (r : Input) (x y : ℕ) : Type 0 where
  pub fits : Fits (frame q)
  pub ordered : Ordered no_rows r.rows
  pub rises : x ≤ y

-- the parts by kind, put together, are the piece
abbrev pub SharesMakePiece : Type 0
SharesMakePiece = (q : Tree) (r : Input) (x y : ℕ) → Between q r x y → piece_in (shares_between q r x y) ≡ piece_between q r x y

-- closing windows come before pending ones, and those before opening ones
abbrev pub SharesRise : Type 0
SharesRise = (q : Tree) (r : Input) (x y : ℕ) → Between q r x y → T (is_sorted nat_cmp (entries_in (shares_between q r x y)))

-- a task's rows alone tell what it gives, where the query joins no streams; else with the rows that it looks back on
abbrev pub SharesAreLocal : Type 0
SharesAreLocal = (q : Tree) (r : Input) (x y : ℕ) → Between q r x y → q.shape ≢ Join
    → shares_here q (mark_at r x) [] (slice_range r.rows x y) (first_arrivals r y).ended ≡ shares_between q r x y

abbrev pub SharesNeedNoMore : Type 0
SharesNeedNoMore = (q : Tree) (n : ℕ) (r : Input) (t : ℕ) → 1 ≤ n → Fits (frame q) → Ordered no_rows r.rows
    → shares_here q (back_mark q n r t) (back_rows q n r t) (task_rows n r t) (task_ends n r t) ≡ shares_between q r (task_start n r t) (task_start n r (t + 1))

-- and so it is with what is handed on
abbrev pub HandedAreLocal : Type 0
HandedAreLocal = (q : Tree) (r : Input) (x y : ℕ) → Between q r x y → q.shape ≢ Join
    → handed_here q (mark_at r x) [] (slice_range r.rows x y) (first_arrivals r y).ended ≡ handed_between q r x y

abbrev pub HandedNeedsNoMore : Type 0
HandedNeedsNoMore = (q : Tree) (n : ℕ) (r : Input) (t : ℕ) → 1 ≤ n → Fits (frame q) → Ordered no_rows r.rows
    → handed_here q (back_mark q n r t) (back_rows q n r t) (task_rows n r t) (task_ends n r t) ≡ handed_between q r (task_start n r t) (task_start n r (t + 1))

-- an open part is that of its window over the arrivals so far
abbrev pub OpenPartsAre : Type 0
OpenPartsAre = (q : Tree) (r : Input) (x y : ℕ) → Between q r x y → (i : ℕ) (p : Part) → get (unclosed q (first_arrivals r x)) i ≡ Some p → p ≡ part q i r.rows 0 x

-- a part of a piece is that of its window over the task's rows
abbrev pub PiecePartsAre : Type 0
PiecePartsAre = (q : Tree) (r : Input) (x y : ℕ) → Between q r x y → (i : ℕ) (p : Part) → get (piece_between q r x y).parts i ≡ Some p → p ≡ part q i r.rows x y
