-- Which rows a window has, and which windows some rows begin and close.
use Rattle.std.specs.Prelude.{ℕ, suc, not, ◌+◌, ◌-◌, ◌*◌, ◌/◌, min, max, List, [], ◌∷◌, ◌≡◌, filter, slice_range, Bool, true, false, ◌&&◌, ◌||◌, if◌then◌else◌, nat_lt, nat_le, Option, Some, None, ℤ, pos, nat_abs, fold, zero}
use Rattle.std.specs.Option.{option_map_or}
use Rattle.saber_plan.specs.declared.rows.Side.{Side}
use Rattle.saber_plan.specs.declared.rows.Side.TheVariants.{Left, Right}
use Rattle.saber_plan.specs.declared.rows.Row.{Row}
use Rattle.saber_plan.specs.declared.windows.Measure.{Measure}
use Rattle.saber_plan.specs.declared.windows.Measure.TheVariants.{Rows, Range}
use Rattle.saber_plan.specs.declared.windows.Stream.{Stream}
use Rattle.saber_plan.specs.declared.windows.Mark.{Mark}
use Rattle.saber_plan.specs.declared.windows.Kind.{Kind}
use Rattle.saber_plan.specs.declared.windows.Kind.TheVariants.{Opening, Closing, Pending, Complete}
use Rattle.saber_plan.specs.Rows.{stamp}
use Rattle.saber_plan.specs.Inputs.{Input, first_arrivals}

abbrev pub by_side : {X : Type 0} → Side → X → X → X
by_side Left x y = x
by_side Right x y = y

-- The windows of a query: none; one slide and size on the left side; one slide, and the sizes of the left and of the right side.
pub data Frame : Type 0 where
  unwindowed : Frame
  one : Measure → ℕ → ℕ → Frame
  two : Measure → ℕ → ℕ → ℕ → Frame

abbrev pub frame_of : List Stream → Frame
frame_of [] = unwindowed
frame_of (s ∷ []) = option_map_or (λ w. one w.measure w.slide w.size) s.window unwindowed
frame_of (s ∷ t ∷ ts) = option_map_or (λ v. option_map_or (λ w. two v.measure v.slide v.size w.size) t.window unwindowed) s.window unwindowed

abbrev pub has_windows : Frame → Bool
has_windows unwindowed = false
has_windows (one measure slide size) = true
has_windows (two measure slide left right) = true

-- ---- what is behind some rows

abbrev pub no_rows : Mark
no_rows = record { left = 0; right = 0; last = None; ended = false }

abbrev pub step_mark : Mark → Row → Mark
step_mark m r = record {
  left = by_side r.side (m.left + 1) m.left;
  right = by_side r.side m.right (m.right + 1);
  last = Some (pos (stamp r.values));
  ended = m.ended;
}

abbrev pub mark_after : Mark → List Row → Mark
mark_after m xs = fold step_mark m xs

abbrev pub mark_of : List Row → Mark
mark_of xs = mark_after no_rows xs

-- the same, with the input's end here if it comes here
abbrev pub end_mark : Bool → Mark → Mark
end_mark e m = record { left = m.left; right = m.right; last = m.last; ended = e || m.ended }

-- what is behind an input, and behind its first x arrivals
abbrev pub last_mark : Input → Mark
last_mark r = end_mark r.ended (mark_of r.rows)

abbrev pub mark_at : Input → ℕ → Mark
mark_at r x = last_mark (first_arrivals r x)

-- the last timestamp is at least t
abbrev pub is_reached : Option ℤ → ℕ → Bool
is_reached None t = false
is_reached (Some z) t = nat_le t (nat_abs z)

-- a row does not come before the last one
abbrev pub in_order : Option ℤ → ℕ → Bool
in_order None t = true
in_order (Some z) t = nat_le (nat_abs z) t

-- a row with this timestamp can come next: the input did not end, and the row does not come before the last one
abbrev pub can_follow : Mark → ℕ → Bool
can_follow m t = not m.ended && in_order m.last t

-- rows that can come after what is behind: their timestamps do not fall, and after the input's end there is none
unfoldable pub Ordered : Mark → List Row → Type 0
Ordered m [] = Unit {0}
Ordered m (x ∷ xs) = (can_follow m (stamp x.values) ≡ true) × Ordered (step_mark m x) xs

-- ---- windows

-- point p lies in window i of a slide and a size
abbrev pub spans : ℕ → ℕ → ℕ → ℕ → Bool
spans slide size i p = nat_le (i * slide) p && nat_lt p (i * slide + size)

-- a row, and what is behind it
pub record Placed : Type 0 where
  pub row : Row
  pub before : Mark

-- its position among all rows, and among those of its side
abbrev pub place : Placed → ℕ
place x = x.before.left + x.before.right

abbrev pub own : Placed → ℕ
own x = by_side x.row.side x.before.left x.before.right

abbrev pub time : Placed → ℕ
time x = stamp x.row.values

-- window i has the row
abbrev pub has : Frame → ℕ → Placed → Bool
has unwindowed i x = false
has (one Rows slide size) i x = by_side x.row.side (spans slide size i (own x)) false
has (one Range slide size) i x = by_side x.row.side (spans slide size i (time x)) false
has (two Rows slide left right) i x = spans slide (by_side x.row.side left right) i (own x)
has (two Range slide left right) i x = spans slide (by_side x.row.side left right) i (time x)

unfoldable pub placed_after : Mark → List Row → List Placed
placed_after m [] = []
placed_after m (x ∷ xs) = record { row = x; before = m } ∷ placed_after (step_mark m x) xs

abbrev pub placed_from_start : List Row → List Placed
placed_from_start xs = placed_after no_rows xs

-- the rows from position x up to y that lie in window i of their side
abbrev pub inside : Frame → ℕ → List Row → ℕ → ℕ → List Placed
inside f i xs x y = filter (has f i) (slice_range (placed_from_start xs) x y)

-- window i is begun by rows with this mark
abbrev pub begun : Frame → ℕ → Mark → Bool
begun unwindowed i m = false
begun (one Rows slide size) i m = nat_lt (i * slide) m.left
begun (one Range slide size) i m = is_reached m.last (i * slide)
begun (two Rows slide left right) i m = nat_lt (i * slide) m.left || nat_lt (i * slide) m.right
begun (two Range slide left right) i m = is_reached m.last (i * slide)

-- its rows are past: all of them came, or a row behind them
abbrev pub past : Frame → ℕ → Mark → Bool
past unwindowed i m = false
past (one Rows slide size) i m = nat_le (i * slide + size) m.left
past (one Range slide size) i m = is_reached m.last (i * slide + size)
past (two Rows slide left right) i m = nat_le (i * slide + left) m.left && nat_le (i * slide + right) m.right
past (two Range slide left right) i m = is_reached m.last (i * slide + max left right)

-- it is closed: its rows are past, or it was begun when the input ended
abbrev pub closed : Frame → ℕ → Mark → Bool
closed f i m = if m.ended then begun f i m else past f i m

-- how many of first, first + slide, first + 2 * slide .. are at most this far
abbrev pub count_to : ℕ → ℕ → ℕ → ℕ
count_to slide first far = if nat_le first far then (far - first) / slide + 1 else 0

abbrev pub count_reached : ℕ → ℕ → Option ℤ → ℕ
count_reached slide first None = 0
count_reached slide first (Some z) = count_to slide first (nat_abs z)

-- how many windows are past
abbrev pub past_count : Frame → Mark → ℕ
past_count unwindowed m = 0
past_count (one Rows slide size) m = count_to slide size m.left
past_count (one Range slide size) m = count_reached slide size m.last
past_count (two Rows slide left right) m = min (count_to slide left m.left) (count_to slide right m.right)
past_count (two Range slide left right) m = count_reached slide (max left right) m.last

-- how many are begun
abbrev pub begun_count : Frame → Mark → ℕ
begun_count unwindowed m = 0
begun_count (one Rows slide size) m = count_to slide 1 m.left
begun_count (one Range slide size) m = count_reached slide 0 m.last
begun_count (two Rows slide left right) m = max (count_to slide 1 m.left) (count_to slide 1 m.right)
begun_count (two Range slide left right) m = count_reached slide 0 m.last

-- how many are closed: a window is exactly where its number is below
abbrev pub closed_count : Frame → Mark → ℕ
closed_count f m = if m.ended then begun_count f m else past_count f m

-- the first window that has a point, and how many begin at most there
abbrev pub first_of : ℕ → ℕ → ℕ → ℕ
first_of slide size p = count_to slide size p

-- sizes and slides of a checked query
abbrev pub Fits : Frame → Type 0
Fits unwindowed = Unit {0}
Fits (one measure slide size) = (nat_le 1 slide ≡ true) × (nat_le 1 size ≡ true)
Fits (two measure slide left right) = (nat_le 1 slide ≡ true) × (nat_le 1 left ≡ true) × (nat_le 1 right ≡ true)

-- what a window is for the rows from mark a up to mark b
abbrev pub kind_of : Frame → ℕ → Mark → Mark → Option Kind
kind_of f i a b =
    if closed f i a then None
    else (if begun f i b then
    Some (if closed f i b then (if begun f i a then Closing else Complete) else (if begun f i a then Pending else Opening))
    else None)

-- the numbers from a, n of them
unfoldable pub from : ℕ → ℕ → List ℕ
from a zero = []
from a (suc n) = a ∷ from (a + 1) n
