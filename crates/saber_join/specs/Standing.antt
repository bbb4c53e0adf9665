-- A row behind so many others, which is all that pairs need of its mark.
use Rattle.std.specs.Prelude.{ℕ, None, false}
use Rattle.saber_plan.specs.declared.windows.Mark.{Mark}
use Rattle.saber_plan.specs.Windows.{Placed, place}

abbrev pub behind_rows : ℕ → Mark
behind_rows n = record { left = n; right = 0; last = None; ended = false }

abbrev pub standing_row : Placed → Placed
standing_row x = record { row = x.row; before = behind_rows (place x) }
