-- Panes: the points of a window's stream, cut at the greatest common divisor of its size and slide (Li et al. 2005, as in SABER 2016).
-- So a window is some panes in a row.
use Rattle.std.specs.Prelude.{◌≡◌, ℕ, zero, suc, ◌+◌, ◌*◌, ◌/◌, ◌%◌, ◌^◌, ◌≤◌, List, [], ◌∷◌, map, filter, fold, length, Bool, true, ◌&&◌, ◌==◌, nat_lt, if◌then◌else◌, sum_by, Option, Some, None}
use Rattle.std.specs.FinMap.{get, insert, from_entries}
use Rattle.std.specs.Ordering.{nat_cmp}
use Rattle.saber_plan.specs.declared.rows.Row.{Row}
use Rattle.saber_plan.specs.declared.windows.Mark.{Mark}
use Rattle.saber_plan.specs.declared.windows.Measure.{Measure}
use Rattle.saber_plan.specs.declared.windows.Measure.TheVariants.{Rows, Range}
use Rattle.saber_plan.specs.declared.windows.Window.{Window}
use Rattle.saber_plan.specs.declared.plans.Shape.TheVariants.{Group}
use Rattle.saber_plan.specs.Trees.{Tree}
use Rattle.saber_plan.specs.Checked.{IsChecked, WindowFits}
use Rattle.saber_plan.specs.Values.{passes}
use Rattle.saber_plan.specs.Windows.{Frame, unwindowed, one, two, Placed, time, placed_after, from}
use Rattle.saber_plan.specs.Needs.{first_window, past_window}
use Rattle.saber_plan.specs.Answers.{frame}
use Rattle.saber_plan.specs.Merges.{joined_value}
use Rattle.saber_plan.specs.Parts.{Part, no_part, group_part, merge}
use Rattle.saber_plan.specs.Tasks.{Parts}
use Rattle.saber_partial.specs.Tallies.{CanMerge}
use Rattle.saber_partial.specs.PartLaws.{OfRows}

-- ---- the cut

-- the greatest common divisor by Euclid's rule, where the first number is at least the last
abbrev pub divisor_by : ℕ → ℕ → ℕ → ℕ
divisor_by zero a b = a
divisor_by (suc n) a b = if b == 0 then a else divisor_by n b (a % b)

abbrev pub divisor : ℕ → ℕ → ℕ
divisor a b = divisor_by b a b

-- what sizes and slides count of a row of the one stream: its position, or its timestamp
abbrev pub point_by : Measure → Placed → ℕ
point_by Rows x = x.before.left
point_by Range x = time x

-- pane j has the points from j times the width on, as many as the width
abbrev pub pane_of : Frame → Placed → ℕ
pane_of unwindowed x = 0
pane_of (one measure slide size) x = point_by measure x / divisor size slide
pane_of (two measure slide left right) x = 0

-- a window's panes: the first, and how many
abbrev pub first_pane : Frame → ℕ → ℕ
first_pane unwindowed i = 0
first_pane (one measure slide size) i = i * slide / divisor size slide
first_pane (two measure slide left right) i = 0

abbrev pub pane_count : Frame → ℕ
pane_count unwindowed = 0
pane_count (one measure slide size) = size / divisor size slide
pane_count (two measure slide left right) = 0

-- ---- panes of rows

-- the rows that lie in a window and pass WHERE
abbrev pub is_counted : Tree → Placed → Bool
is_counted q x = nat_lt (first_window (frame q) x) (past_window (frame q) x) && passes q.predicate x.row.values []

abbrev pub counted_rows : Tree → List Placed → List Placed
counted_rows q us = filter (is_counted q) us

-- those of a pane
abbrev pub in_pane : Tree → ℕ → List Placed → List Placed
in_pane q j us = filter (λ x. j == pane_of (frame q) x) us

abbrev pub pane_part : Tree → ℕ → List Placed → Part
pane_part q j us = group_part q (map (λ x. x.row.values) (in_pane q j us))

-- each pane of such rows with its part
unfoldable pub panes_in : Tree → List Placed → Parts
panes_in q us = from_entries {R = nat_cmp} (map (λ j. (j, pane_part q j us)) (map (pane_of (frame q)) us))

-- those of rows behind a mark
abbrev pub panes_here : Tree → Mark → List Row → Parts
panes_here q m xs = panes_in q (counted_rows q (placed_after m xs))

-- ---- a window of panes

abbrev pub or_none : Option Part → Part
or_none None = no_part
or_none (Some p) = p

-- some panes in a row, merged
abbrev pub merged_panes : Parts → List ℕ → Part
merged_panes m js = fold (λ p j. merge p (or_none (get m j))) no_part js

-- what a window's panes come to
abbrev pub window_part : Frame → ℕ → Parts → Part
window_part f i m = merged_panes m (from (first_pane f i) (pane_count f))

-- ---- what may be taken in

-- what entries of a tree map are
abbrev pub seen_panes : List (ℕ × Part) → Parts
seen_panes es = from_entries {R = nat_cmp} (map (λ e. (e.0, e.1)) es)

-- what a pane has
abbrev pub joined_at : Parts → ℕ → Option Part
joined_at m j = get m j

-- panes with a part more
abbrev pub with_part : Parts → ℕ → Part → Parts
with_part m j p = insert m j (joined_value merge (get m j) p)

-- and with a row more, if it is counted
abbrev pub with_row_in : Tree → Parts → Placed → Parts
with_row_in q m x = if is_counted q x then with_part m (pane_of (frame q) x) (group_part q (x.row.values ∷ [])) else m

-- panes of one plan, pane j over at most c(j) rows
pub record PanesOf (q : Tree) (c : ℕ → ℕ) (m : Parts) : Type 0 where
  pub at : (j : ℕ) (p : Part) → get m j ≡ Some p → OfRows q (c j) p

-- what both have of a pane can be merged
pub record CanTakeIn (m n : Parts) : Type 0 where
  pub at : (j : ℕ) (a b : Part) → get m j ≡ Some a → get n j ≡ Some b → CanMerge a b

-- the row's pane can take it in, if it is counted
abbrev pub HasRowRoom : Tree → Parts → Placed → Type 0
HasRowRoom q m x = is_counted q x ≡ true → CanMerge (or_none (joined_at m (pane_of (frame q) x))) (group_part q (x.row.values ∷ []))

-- such panes can take in rows, so that each has at most 2^40
pub record RowsRoom (q : Tree) (m : Parts) (us : List Placed) : Type 0 where
  pub has : ℕ → ℕ
  pub panes : PanesOf q has m
  pub few : (j : ℕ) → has j + length (in_pane q j us) ≤ 2 ^ 40

-- and a part can take in a window of them, so that it has at most 2^40
pub record WindowRoom (q : Tree) (i : ℕ) (m : Parts) (p : Part) : Type 0 where
  pub has : ℕ → ℕ
  pub own : ℕ
  pub panes : PanesOf q has m
  pub part : OfRows q own p
  pub few : own + sum_by has (from (first_pane (frame q) i) (pane_count (frame q))) ≤ 2 ^ 40

-- ---- how a plan is cut

-- a checked group query, its frame, its window and the width of its panes
pub record Cut (q : Tree) (f : Frame) (w : Window) (width : ℕ) : Type 0 where
  pub checked : IsChecked q
  pub group : q.shape ≡ Group
  pub framed : f ≡ frame q
  pub windowed : frame q ≡ one w.measure w.slide w.size
  pub fits : WindowFits w
  pub wide : width ≡ divisor w.size w.slide
