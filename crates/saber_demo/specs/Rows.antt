-- The generated rows, and the file that has them.
use Rattle.std.specs.Prelude.{ℕ, zero, suc, ◌+◌, ◌%◌, List, [], ◌∷◌, ◌++◌, map, flat_map, pos}
use Rattle.saber_plan.specs.declared.rows.Side.TheVariants.{Left}
use Rattle.saber_plan.specs.declared.rows.Row.{Row}
use Rattle.saber_plan.specs.Windows.{from}
use Rattle.saber_plan.specs.Answers.{line}
use Rattle.saber_demo.specs.Generator.{step, upper, drawn_number}

-- row j, for which r was drawn: its number is its time, and it is of one of four groups
abbrev pub row_of : ℕ → ℕ → Row
row_of j r = record { side = Left; values = pos j ∷ pos (r % 4) ∷ pos r ∷ [] }

-- the first n rows
abbrev pub demo_rows : ℕ → ℕ → List Row
demo_rows seed n = map (λ j. row_of j (drawn_number seed j)) (from 0 n)

-- a row's line: its numbers in decimal, with commas between, and LF
abbrev pub row_line : Row → List ℕ
row_line r = line r.values

-- the file of the first n rows
abbrev pub generated_file : ℕ → ℕ → List ℕ
generated_file seed n = flat_map row_line (demo_rows seed n)

-- ---- what is left of it

-- n rows from row j on, where this is the state before it
unfoldable pub lines_from : ℕ → ℕ → ℕ → List ℕ
lines_from x j zero = []
lines_from x j (suc n) = row_line (row_of j (upper (step x))) ++ lines_from (step x) (j + 1) n
