-- How the windows of a plan are kept.
use Rattle.saber_plan.specs.Windows.{Frame, unwindowed, one, two}
use Rattle.saber_window.specs.declared.windowed.Windowed.{Windowed}
use Rattle.saber_window.specs.declared.windowed.Windowed.TheVariants.{Neither, One, Both}

-- the frame that is kept
abbrev pub frame_with : Windowed → Frame
frame_with Neither = unwindowed
frame_with (One measure slide size) = one measure slide size
frame_with (Both measure slide left right) = two measure slide left right

-- and how a frame is kept
abbrev pub windowed_by : Frame → Windowed
windowed_by unwindowed = Neither
windowed_by (one measure slide size) = One measure slide size
windowed_by (two measure slide left right) = Both measure slide left right
