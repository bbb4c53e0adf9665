-- Where a row lies among what sizes and slides count.
use Rattle.std.specs.Prelude.{ℕ}
use Rattle.saber_plan.specs.declared.windows.Measure.{Measure}
use Rattle.saber_plan.specs.declared.windows.Measure.TheVariants.{Rows, Range}
use Rattle.saber_plan.specs.Windows.{Placed, own, time}

-- its position among the rows of its side, or its timestamp
abbrev pub point : Measure → Placed → ℕ
point Rows x = own x
point Range x = time x
