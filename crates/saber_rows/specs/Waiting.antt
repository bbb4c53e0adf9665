-- Rows that are held until no earlier one can come.
use Rattle.std.specs.Prelude.{◌<◌, ℕ, List}
use Rattle.std.specs.List.{AllByRecursion}
use Rattle.std.specs.BTreeMap.{values}
use Rattle.saber_plan.specs.declared.rows.Row.{Row}
use Rattle.saber_rows.specs.declared.waiting.Rank.{Rank}
use Rattle.saber_rows.specs.declared.waiting.Waiting.{Waiting}

-- the rows that wait, in order of time
abbrev pub rows_in : Waiting → List Row
rows_in w = values w.rows

-- each is of a line before this one
abbrev pub AllBefore : ℕ → Waiting → Type 0
AllBefore line w = AllByRecursion (λ (e : Rank × Row). e.0.line < line) w.rows.entries
