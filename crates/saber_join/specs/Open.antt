-- The pairs found of the windows of a task.
use Rattle.std.specs.Prelude.{◌≡◌, ℕ, List, [], ◌∷◌, map, filter, ◌&&◌, Bool, nat_le, nat_lt, if◌then◌else◌, unwrap_or, max, Option, ℤ}
use Rattle.std.specs.Ordering.{nat_cmp}
use Rattle.std.specs.FinMap.{FinMap, get, insert, from_entries}
use Rattle.saber_plan.specs.declared.rows.Row.{Row}
use Rattle.saber_plan.specs.declared.windows.Mark.{Mark}
use Rattle.saber_plan.specs.Trees.{Tree}
use Rattle.saber_plan.specs.Answers.{frame}
use Rattle.saber_plan.specs.Parts.{Part, no_part}
use Rattle.saber_plan.specs.Needs.{part_here, first_window, past_window}
use Rattle.saber_plan.specs.Windows.{Placed, by_side, closed_count}
use Rattle.saber_join.specs.Shelves.{Card, meets}
use Rattle.saber_join.specs.Standing.{standing_row}
use Rattle.saber_join.specs.Ties.{Ends, key_in}
use Rattle.saber_join.specs.Adding.{with_rights, with_lefts}

abbrev pub Windows : Type 0
Windows = FinMap nat_cmp Part

abbrev pub seen_parts : List (ℕ × Part) → Windows
seen_parts es = from_entries {R = nat_cmp} (map (λ e. (e.0, e.1)) es)

-- the pairs of window i
abbrev pub pairs_in : Windows → ℕ → Part
pairs_in m i = unwrap_or (get m i) no_part

-- window k has changed so, and no other
abbrev pub ChangedAt : (Part → Part) → ℕ → Windows → Windows → Type 0
ChangedAt f k m n = n ≡ insert m k (f (pairs_in m k))

-- the windows from first up to past have changed so, each by its number, and no other
pub record Changed (f : ℕ → Part → Part) (first past : ℕ) (m n : Windows) : Type 0 where
  pub at : (i : ℕ) → pairs_in n i ≡ (if nat_le first i && nat_lt i past then f i (pairs_in m i) else pairs_in m i)

-- a card lies in window i, and the rows of those that do
abbrev pub lies_in : ℕ → Card → Bool
lies_in i e = nat_le e.first i && nat_lt i e.past

abbrev pub rows_in : ℕ → List Card → List Placed
rows_in i es = map (λ e. e.seen) (filter (lies_in i) es)

-- window i with the pairs of a left row with these right rows that lie in it, and of a right row with left rows
abbrev pub meeting_rights : Tree → Placed → List Card → ℕ → Part → Part
meeting_rights q x es i p = with_rights q p x (rows_in i es)

abbrev pub meeting_lefts : Tree → Placed → List Card → ℕ → Part → Part
meeting_lefts q y es i p = with_lefts q p y (rows_in i es)

-- and of a row with those of the other side
abbrev pub meeting_part : Tree → Placed → List Card → List Card → ℕ → Part → Part
meeting_part q x lefts rights i p = by_side x.row.side (meeting_rights q x rights i p) (meeting_lefts q x lefts i p)

-- the windows from first up to past, by number with their pairs, have met so: a left row these right rows, a right row these left rows
abbrev pub MeetsRights : Tree → Placed → List Card → ℕ → ℕ → List (ℕ × Part) → List (ℕ × Part) → Type 0
MeetsRights q x es first past old new = Changed (meeting_rights q x es) first past (seen_parts old) (seen_parts new)

abbrev pub MeetsLefts : Tree → Placed → List Card → ℕ → ℕ → List (ℕ × Part) → List (ℕ × Part) → Type 0
MeetsLefts q y es first past old new = Changed (meeting_lefts q y es) first past (seen_parts old) (seen_parts new)

-- and a row those of the other side that have its key
abbrev pub MeetsAlike : Tree → Placed → ℤ → ℕ → ℕ → List Card → List Card → List (ℕ × Part) → List (ℕ × Part) → Type 0
MeetsAlike q x k first past lefts rights old new =
    Changed (meeting_part q x (filter (meets k first) lefts) (filter (meets k first) rights)) first past (seen_parts old) (seen_parts new)

-- a row of the task has met those of the other side so far that have its key
abbrev pub Takes : Tree → Option Ends → ℕ → Placed → List Card → List Card → Windows → Windows → Type 0
Takes q t c x lefts rights m n =
    let first = max (first_window (frame q) x) c in
    let near = filter (meets (key_in t x.row) first) in
    Changed (meeting_part q (standing_row x) (near lefts) (near rights)) first (past_window (frame q) x) m n

-- with one pair
abbrev pub with_pair : Tree → Placed → Placed → ℕ → Part → Part
with_pair q x y i p = with_rights q p x (y ∷ [])

-- each window from number c on has its part over a task's rows, and no other has a pair
pub record HoldsTask (q : Tree) (c : ℕ) (before : Mark) (back rows : List Row) (m : Windows) : Type 0 where
  pub at : (i : ℕ) → pairs_in m i ≡ (if nat_lt i c then no_part else part_here q i before back rows)

-- the windows are those that aren't closed at the mark before the task's rows
abbrev pub HoldsOpen : Tree → Mark → Mark → List Row → List Row → Windows → Type 0
HoldsOpen q after before back rows = HoldsTask q (closed_count (frame q) after) before back rows
