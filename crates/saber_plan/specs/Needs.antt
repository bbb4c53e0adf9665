-- Which rows before a task it needs, and what a task makes of its own rows and of those.
-- The free pointer of a task and its look-back are those of SABER 2016; that they go by whole tasks is this project's own rule.
use Rattle.std.specs.Prelude.{ℕ, ◌+◌, ◌-◌, ◌/◌, max, List, [], ◌∷◌, map, filter, slice_range, Bool, false, if◌then◌else◌, nat_le, nat_lt, Option, Some, None}
use Rattle.std.specs.List.{list_any}
use Rattle.std.specs.Option.{option_map_or}
use Rattle.saber_plan.specs.declared.rows.Row.{Row}
use Rattle.saber_plan.specs.declared.windows.Mark.{Mark}
use Rattle.saber_plan.specs.declared.windows.Measure.TheVariants.{Rows, Range}
use Rattle.saber_plan.specs.Trees.{Tree}
use Rattle.saber_plan.specs.Inputs.{Input}
use Rattle.saber_plan.specs.Windows.{Frame, unwindowed, one, two, Placed, place, own, time, placed_from_start, has, last_mark, mark_at, by_side, count_to, closed_count, begun_count, from}
use Rattle.saber_plan.specs.Answers.{by_shape, frame}
use Rattle.saber_plan.specs.Tasks.{task_start, upto, task_count}
use Rattle.saber_plan.specs.Shares.{Piece, piece_in, shares_here}
pub use Rattle.saber_plan.specs.Shares.{is_closing, is_pending, is_opening}
unfoldable pub use Rattle.saber_plan.specs.Shares.{of_kind, part_here}

-- ---- the windows of a row

-- the first window that has the row, and the one after the last: there is none where the first is not below the other
abbrev pub first_window : Frame → Placed → ℕ
first_window unwindowed x = 0
first_window (one Rows slide size) x = by_side x.row.side (count_to slide size (own x)) 0
first_window (one Range slide size) x = by_side x.row.side (count_to slide size (time x)) 0
first_window (two Rows slide left right) x = count_to slide (by_side x.row.side left right) (own x)
first_window (two Range slide left right) x = count_to slide (by_side x.row.side left right) (time x)

abbrev pub past_window : Frame → Placed → ℕ
past_window unwindowed x = 0
past_window (one Rows slide size) x = by_side x.row.side (count_to slide 0 (own x)) 0
past_window (one Range slide size) x = by_side x.row.side (count_to slide 0 (time x)) 0
past_window (two Rows slide left right) x = count_to slide 0 (own x)
past_window (two Range slide left right) x = count_to slide 0 (time x)

-- the last window that has the row
abbrev pub last_window : Frame → Placed → Option ℕ
last_window f x = if nat_lt (first_window f x) (past_window f x) then Some (past_window f x - 1) else None

-- ---- the free pointer

-- the row lies in a window that rows with this mark begin and do not close
abbrev pub lies_open : Frame → Mark → Placed → Bool
lies_open f m x = list_any (λ i. has f i x) (from (closed_count f m) (begun_count f m - closed_count f m))

abbrev pub first_place : List Placed → Option ℕ
first_place [] = None
first_place (x ∷ xs) = Some (place x)

-- the position of the first row that lies in a window not closed by this input
unfoldable pub first_open : Frame → Input → Option ℕ
first_open f r = first_place (filter (lies_open f (last_mark r)) (placed_from_start r.rows))

-- The task of the first row before task t that lies in a window which the rows before task t do not close; t, if there is none.
-- A query that joins no streams needs no row before its task's.
abbrev pub free : Tree → ℕ → Input → ℕ → ℕ
free q n r t = by_shape q.shape t t (option_map_or (λ p. p / n) (first_open (frame q) (upto n r t)) t)

-- how many tasks' rows task t needs, with its own
abbrev pub need : Tree → ℕ → Input → ℕ → ℕ
need q n r t = t - free q n r t + 1

abbrev pub first_number : List ℕ → Option ℕ
first_number [] = None
first_number (k ∷ ks) = Some k

-- the first task that needs more than this many tasks' rows
abbrev pub wide : Tree → ℕ → Input → ℕ → Option ℕ
wide q n r most = first_number (filter (λ t. nat_lt most (need q n r t)) (from 0 (task_count n r)))

-- ---- what a task makes of its rows, and of rows before them: Shares has the part of a window

-- the piece, from those rows alone, and whether the input ends behind them
unfoldable pub piece_here : Tree → Mark → List Row → List Row → Bool → Piece
piece_here q m back rows ended = piece_in (shares_here q m back rows ended)

-- ---- the rows of a task and of its look-back

-- the mark before task t
abbrev pub task_mark : ℕ → Input → ℕ → Mark
task_mark n r t = last_mark (upto n r t)

-- the rows of the tasks from free(t) up to task t, and those of task t
abbrev pub back_rows : Tree → ℕ → Input → ℕ → List Row
back_rows q n r t = slice_range r.rows (task_start n r (free q n r t)) (task_start n r t)

abbrev pub task_rows : ℕ → Input → ℕ → List Row
task_rows n r t = slice_range r.rows (task_start n r t) (task_start n r (t + 1))

-- whether the input ends behind task t
abbrev pub task_ends : ℕ → Input → ℕ → Bool
task_ends n r t = (upto n r (t + 1)).ended

-- the mark before the rows that task t needs
abbrev pub back_mark : Tree → ℕ → Input → ℕ → Mark
back_mark q n r t = mark_at r (task_start n r (free q n r t))

-- ---- the free pointer by the last windows of blocks

abbrev pub later_of : Option ℕ → Option ℕ → Option ℕ
later_of None o = o
later_of (Some a) None = Some a
later_of (Some a) (Some b) = Some (max a b)

-- the greatest last window of some rows
abbrev pub last_of : Frame → List Placed → Option ℕ
last_of f [] = None
last_of f (x ∷ xs) = later_of (last_window f x) (last_of f xs)

abbrev pub reaches : Option ℕ → ℕ → Bool
reaches None closed = false
reaches (Some l) closed = nat_le closed l

-- The first block from this one on whose greatest last window is not closed, else the block after them.
-- The greatest is kept for each block in place of the last row's, since windows of two sides do not rise with position.
unfoldable pub free_of : ℕ → List (Option ℕ) → ℕ → ℕ
free_of first [] closed = first
free_of first (l ∷ ls) closed = if reaches l closed then first else free_of (first + 1) ls closed

-- the greatest last windows of k blocks of n rows
abbrev pub block_lasts : Frame → ℕ → Input → ℕ → ℕ → List (Option ℕ)
block_lasts f n r first k = map (λ u. last_of f (slice_range (placed_from_start r.rows) (task_start n r u) (task_start n r (u + 1)))) (from first k)
