-- What a window is to a task, by counts of windows.
use Rattle.std.specs.Prelude.{◌≡◌, ℕ, ◌≤◌, ◌<◌, Some, if◌then◌else◌, nat_lt}
use Rattle.saber_plan.specs.declared.windows.Kind.{Kind}
use Rattle.saber_plan.specs.declared.windows.Kind.TheVariants.{Opening, Closing, Pending, Complete}
use Rattle.saber_plan.specs.declared.windows.Mark.{Mark}
use Rattle.saber_plan.specs.Windows.{Frame, closed_count, begun_count, kind_of}
use Rattle.saber_window.specs.declared.bounds.Bounds.{Bounds}

-- a window that isn't closed before the task, and is begun after it
abbrev pub kind_in : Bounds → ℕ → Kind
kind_in b i =
    if nat_lt i b.closed_after then (if nat_lt i b.begun_before then Closing else Complete)
    else (if nat_lt i b.begun_before then Pending else Opening)

-- the bounds of a task whose rows go from mark a up to mark z
pub record AreBounds (f : Frame) (a z : Mark) (b : Bounds) : Type 0 where
  pub begun_before : b.begun_before ≡ begun_count f a
  pub closed_after : b.closed_after ≡ closed_count f z
  pub kinds : (i : ℕ) → closed_count f a ≤ i → i < begun_count f z → Some (kind_in b i) ≡ kind_of f i a z
