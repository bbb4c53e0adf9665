-- How many windows have a point.
use Rattle.std.specs.Prelude.{ℕ}
use Rattle.std.specs.Int.{div_ceil}

-- the size by the slide, rounded up: no point lies in more windows (this project's rule)
abbrev pub overlap : ℕ → ℕ → ℕ
overlap size slide = div_ceil size slide
