-- Windows of two streams by time.
use Rattle.saber_plan.specs.declared.windows.Measure.TheVariants.{Rows, Range}
use Rattle.saber_plan.specs.Windows.{Frame, unwindowed, one, two}

-- which windows a row lies in is told by its timestamp and its side
abbrev pub IsTimed : Frame → Type 0
IsTimed unwindowed = ⊥
IsTimed (one measure slide size) = ⊥
IsTimed (two Rows slide left right) = ⊥
IsTimed (two Range slide left right) = Unit {0}
