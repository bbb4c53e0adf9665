-- Windows against tasks of so many rows (this project's own rule).
use Rattle.std.specs.Prelude.{ℕ, ◌-◌, ◌/◌, Bool, true, nat_lt, nat_le, ◌&&◌}
use Rattle.saber_plan.specs.declared.windows.Measure.{Measure}
use Rattle.saber_plan.specs.declared.windows.Measure.TheVariants.{Rows, Range}
use Rattle.saber_plan.specs.declared.windows.Window.{Window}

-- a window by rows is longer than half a task, and what two of them share is not longer than one
abbrev pub fits_two : Measure → ℕ → ℕ → ℕ → Bool
fits_two Rows slide size n = nat_le (size - slide) n && nat_lt (n / 2) size
fits_two Range slide size n = true

-- windows overlap, and many lie whole in two tasks and not in one
abbrev pub may_lie_in_two : Window → ℕ → Bool
may_lie_in_two w n = nat_lt w.slide w.size && fits_two w.measure w.slide w.size n
