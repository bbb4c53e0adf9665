-- Rows that a reader gave, one after another.
use Rattle.std.specs.Prelude.{◌≡◌, ◌≢◌, ◌≤◌, ◌<◌, ℕ, length, List, ◌++◌, Bool, true, false, Result, Ok, Err}
use Rattle.std.specs.List.{AllByRecursion}
use Rattle.saber_plan.specs.declared.rows.Row.{Row}
use Rattle.saber_plan.specs.declared.windows.Mark.{Mark}
use Rattle.saber_plan.specs.Rows.{Read}
use Rattle.saber_plan.specs.Windows.{Ordered, mark_after}
use Rattle.saber_plan.specs.Trees.{Tree}
use Rattle.saber_plan.specs.GivenRows.{IsRowOf}
use Rattle.saber_dispatch.specs.Sources.{Lefts}
use Rattle.saber_dispatch.specs.declared.ends.End.{End}
use Rattle.saber_dispatch.specs.declared.ends.End.TheVariants.{AllRead, Bad, ReadFault, TooWide, NoMemory}
use Rattle.saber_dispatch.specs.Readings.{Reading, Suits, ReadMoves, ReadEnds, Reads, IsOpen}

-- these rows and then others
abbrev pub prepend : List Row → Read → Read
prepend xs read = record { rows = xs ++ read.rows; end = read.end }

-- the reader gave these rows, which follow a mark
pub record Took (q : Tree) (m : Mark) (old new : Reading) (had has : Lefts) (xs : List Row) : Type 0 where
  pub moves : ReadMoves (prepend xs) old new had has
  pub fits : AllByRecursion (IsRowOf q) xs
  pub ordered : Ordered m xs
  pub reads : Reads q (mark_after m xs) new

-- the rows that came are kept: those of a block are dropped only where a read or memory failed
abbrev pub keeps : End → Bool
keeps AllRead = true
keeps (Bad side line cause) = true
keeps (ReadFault side) = false
keeps (TooWide task need) = false
keeps NoMemory = false

abbrev pub keeps_rows : Result (Unit {0}) End → Bool
keeps_rows (Ok u) = true
keeps_rows (Err end) = keeps end

-- so many rows were read, and the reader goes on
pub record Filling (n : ℕ) (q : Tree) (m after : Mark) (old new : Reading) (had has : Lefts) (before behind : List Row) : Type 0 where
  pub rows : List Row
  pub took : Took q m old new had has rows
  pub mark : after ≡ mark_after m rows
  pub kept : behind ≡ before ++ rows
  pub count : length rows ≡ n

-- whatever rows the reader gave before, so many more came of what it holds, and the inputs stand
abbrev pub TakesOn : ℕ → Mark → Mark → Reading → Reading → List Row → List Row → Type 0
TakesOn n m after old new had has =
    (q : Tree) (lefts : Lefts) → Suits old lefts → Reads q m old → Filling n q m after old new lefts lefts had has × (IsOpen old → IsOpen new)

-- rows were read until there were so many more, or no more came
pub record Fills (result : Result (Unit {0}) End) (q : Tree) (size : ℕ) (m after : Mark) (old new : Reading) (had has : Lefts)
    (before behind : List Row) : Type 0 where
  pub rows : List Row
  pub took : Took q m old new had has rows
  pub mark : after ≡ mark_after m rows
  pub kept : keeps_rows result ≡ true → behind ≡ before ++ rows
  pub few : length rows ≤ size
  pub full : (u : Unit {0}) → result ≡ Ok u → (length rows ≡ size) × IsOpen new
  pub short : (e : End) → result ≡ Err e → e ≢ NoMemory → length rows < size
  pub ends : (e : End) → result ≡ Err e → ReadEnds e new

-- where a block that is filled stands: the mark behind its rows, the reader, what the inputs have left, and its rows
pub record FillState : Type 0 where
  pub mark : Mark
  pub reading : Reading
  pub lefts : Lefts
  pub rows : List Row

abbrev pub fill_state : Mark → Reading → Lefts → List Row → FillState
fill_state mark reading lefts rows = record { mark = mark; reading = reading; lefts = lefts; rows = rows }

-- whatever rows the reader gave before
abbrev pub FillsOn : Result (Unit {0}) End → ℕ → FillState → FillState → Type 0
FillsOn result size old new = (q : Tree) → Reads q old.mark old.reading →
    Fills result q size old.mark new.mark old.reading new.reading old.lefts new.lefts old.rows new.rows
