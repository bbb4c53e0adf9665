-- Rows by where they stand among the numbers of all.
use Rattle.std.specs.Prelude.{◌≤◌, [], ◌∷◌, ◌++◌, ℕ, ℤ, List, map, slice_range}
use Rattle.std.specs.List.{AllByRecursion}
use Rattle.saber_plan.specs.declared.rows.Row.{Row}
use Rattle.saber_plan.specs.declared.rows.Side.{Side}
use Rattle.saber_flat.specs.declared.rows.Place.{Place}

-- the row that stands at a place
abbrev pub row_at : List ℤ → Place → Row
row_at numbers p = record { side = p.side; values = slice_range numbers p.start p.end }

abbrev pub rows_at : List ℤ → List Place → List Row
rows_at numbers places = map (row_at numbers) places

-- a place among the first so many numbers
pub record IsBelow (n : ℕ) (p : Place) : Type 0 where
  pub rises : p.start ≤ p.end
  pub within : p.end ≤ n

abbrev pub AreBelow : ℕ → List Place → Type 0
AreBelow n places = AllByRecursion (IsBelow n) places

-- rows, and the numbers so far of one that is not closed yet
pub record Building : Type 0 where
  pub rows : List Row
  pub begun : List ℤ

abbrev pub nothing : Building
nothing = record { rows = []; begun = [] }

-- one number more of the row that is not closed
abbrev pub with_number : ℤ → Building → Building
with_number number b = record { rows = b.rows; begun = b.begun ++ number ∷ [] }

-- one row more, and none that is not closed
abbrev pub with_row : Row → Building → Building
with_row row b = record { rows = b.rows ++ row ∷ []; begun = [] }

-- the row closed, as one of this stream
abbrev pub closed_by : Side → Building → Building
closed_by side b = with_row (record { side = side; values = b.begun }) b
