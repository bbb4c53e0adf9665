-- Points and rows that lie in the same windows.
use Rattle.std.specs.Prelude.{◌≡◌, ℕ, ◌+◌, ◌^◌, ◌≤◌, ◌<◌, List, length, take, drop, Some, slice_get}
use Rattle.saber_plan.specs.declared.rows.Row.{Row}
use Rattle.saber_plan.specs.declared.rows.Side.TheVariants.{Left}
use Rattle.saber_plan.specs.declared.windows.Mark.{Mark}
use Rattle.saber_plan.specs.Rows.{stamp}
use Rattle.saber_plan.specs.Windows.{Frame, Placed, count_to, mark_after}
use Rattle.saber_plan.specs.Needs.{first_window, past_window}

-- each point from one up to another has as many of first, first + slide, .. at most there as the first of them
abbrev pub CountsAlike : ℕ → ℕ → ℕ → ℕ → Type 0
CountsAlike slide first far until = (p : ℕ) → far ≤ p → p < until → count_to slide first p ≡ count_to slide first far

-- two rows lie in the same windows
pub record LieAlike (f : Frame) (x y : Placed) : Type 0 where
  pub first : first_window f y ≡ first_window f x
  pub past : past_window f y ≡ past_window f x

-- the rows from position x up to y lie in the same windows, where this mark stands before the first of them
abbrev pub LieTogether : Frame → Mark → List Row → ℕ → ℕ → Type 0
LieTogether f m rows x y = (k : ℕ) (a b : Row) → x + k < y → Some a ≡ slice_get rows x → Some b ≡ slice_get rows (x + k)
    → LieAlike f (record { row = a; before = m }) (record { row = b; before = mark_after m (take k (drop x rows)) })

-- a row of the left stream, with a timestamp that a mark can keep
pub record IsLeft (r : Row) : Type 0 where
  pub side : r.side ≡ Left
  pub time : stamp r.values < 2 ^ 63

-- row k is there, and its timestamp lies below a point
pub record IsBelow (until : ℕ) (rows : List Row) (k : ℕ) : Type 0 where
  pub there : k < length rows
  pub below : (r : Row) → Some r ≡ slice_get rows k → stamp r.values < until
