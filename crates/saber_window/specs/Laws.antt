-- Laws of counts of windows, and of windows that are past.
use Rattle.std.specs.Prelude.{◌≡◌, ℕ, ◌^◌, ◌≤◌, List, [], ◌∷◌, filter, true, nat_lt}
use Rattle.saber_plan.specs.declared.rows.Side.{Side}
use Rattle.saber_plan.specs.declared.rows.Row.{Row}
use Rattle.saber_plan.specs.declared.windows.Mark.{Mark}
use Rattle.saber_plan.specs.declared.windows.Measure.{Measure}
use Rattle.saber_plan.specs.Rows.{stamp, RowFits}
use Rattle.saber_plan.specs.Windows.{Fits, Ordered, one, has, placed_after}
use Rattle.saber_plan.specs.Needs.{first_window}

-- a window of one stream that ends at a row or before it has neither that row nor a later one
abbrev pub PastHaveNone : Type 0
PastHaveNone = (measure : Measure) (slide size : ℕ) → Fits (one measure slide size) → (i : ℕ) (m : Mark) (x : Row) (xs : List Row) → Ordered m (x ∷ xs)
    → nat_lt i (first_window (one measure slide size) (record { row = x; before = m })) ≡ true
    → filter (has (one measure slide size) i) (placed_after m (x ∷ xs)) ≡ []

-- the timestamp of a row of a file is at most 2^62
abbrev pub StampsFit : Type 0
StampsFit = (side : Side) (columns : ℕ) (r : Row) → RowFits side columns r → stamp r.values ≤ 2 ^ 62
