-- The rows found of the windows of a task.
use Rattle.std.specs.Prelude.{◌≡◌, ℕ, List, [], ◌∷◌, ◌++◌, map, filter, ◌&&◌, nat_le, nat_lt, if◌then◌else◌, unwrap_or, max}
use Rattle.std.specs.Ordering.{nat_cmp}
use Rattle.std.specs.FinMap.{FinMap, get, insert, from_entries}
use Rattle.saber_plan.specs.declared.rows.Row.{Row}
use Rattle.saber_plan.specs.declared.windows.Mark.{Mark}
use Rattle.saber_plan.specs.Trees.{Tree}
use Rattle.saber_plan.specs.Answers.{frame}
use Rattle.saber_plan.specs.Needs.{first_window, past_window}
use Rattle.saber_plan.specs.Windows.{Placed, placed_after, has, closed_count}
use Rattle.saber_select.specs.Found.{Found, found_of, AllBelow}

abbrev pub Windows : Type 0
Windows = FinMap nat_cmp (List Found)

abbrev pub seen_windows : List (ℕ × List Found) → Windows
seen_windows es = from_entries {R = nat_cmp} (map (λ e. (e.0, e.1)) es)

-- the rows found of window i
abbrev pub rows_in : Windows → ℕ → List Found
rows_in m i = unwrap_or (get m i) []

-- none of them stands at position n or behind it
pub record AllEarlier (n : ℕ) (m : Windows) : Type 0 where
  pub at : (i : ℕ) → AllBelow n (rows_in m i)

-- one row more of window i, and of no other
abbrev pub PutsAt : Found → ℕ → Windows → Windows → Type 0
PutsAt e i m n = n ≡ insert m i (rows_in m i ++ e ∷ [])

-- each window from first up to past has these rows more, and no other has
pub record Puts (es : List Found) (first past : ℕ) (m n : Windows) : Type 0 where
  pub at : (i : ℕ) → rows_in n i ≡ (if nat_le first i && nat_lt i past then rows_in m i ++ es else rows_in m i)

-- a row that passes is put into each window from number c on that has it
abbrev pub Takes : Tree → ℕ → Placed → Windows → Windows → Type 0
Takes q c x m n = Puts (found_of q (x ∷ [])) (max (first_window (frame q) x) c) (past_window (frame q) x) m n

-- those of window i, of rows that follow a mark
abbrev pub found_here : Tree → Mark → List Row → ℕ → List Found
found_here q before rows i = found_of q (filter (has (frame q) i) (placed_after before rows))

-- each window from number c on has those of a task's rows, and no other has any
pub record HoldsFrom (q : Tree) (c : ℕ) (before : Mark) (rows : List Row) (m : Windows) : Type 0 where
  pub at : (i : ℕ) → rows_in m i ≡ (if nat_lt i c then [] else found_here q before rows i)

-- the windows are those that aren't closed at the mark before the task's rows
abbrev pub HoldsTask : Tree → Mark → List Row → Windows → Type 0
HoldsTask q before rows = HoldsFrom q (closed_count (frame q) before) before rows
