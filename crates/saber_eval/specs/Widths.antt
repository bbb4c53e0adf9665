-- How many columns rows have.
use Rattle.std.specs.Prelude.{ℕ, ℤ, List, length}
use Rattle.saber_plan.specs.declared.rows.Side.{Side}
use Rattle.saber_plan.specs.declared.rows.Side.TheVariants.{Left, Right}

-- how many columns a left and a right row have
abbrev pub widths : List ℤ → List ℤ → Side → ℕ
widths left right Left = length left
widths left right Right = length right
