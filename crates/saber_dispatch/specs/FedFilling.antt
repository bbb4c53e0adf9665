-- The rows of a block that is read from a feed.
use Rattle.std.specs.Prelude.{◌≡◌, ◌<◌, ℕ, length, List, [], Option, Ok, Err}
use Rattle.saber_io.specs.declared.feeds.EndMark.{EndMark}
use Rattle.saber_plan.specs.declared.rows.Row.{Row}
use Rattle.saber_plan.specs.declared.rows.Side.TheVariants.{Left}
use Rattle.saber_plan.specs.declared.windows.Mark.{Mark}
use Rattle.saber_plan.specs.Trees.{Tree}
use Rattle.saber_dispatch.specs.Sources.{Lefts}
use Rattle.saber_dispatch.specs.declared.ends.End.TheVariants.{NoMemory}
use Rattle.saber_dispatch.specs.declared.fed_fill.Progress.{Progress}
use Rattle.saber_dispatch.specs.declared.fed_fill.Progress.TheVariants.{Full, Dry, Ended}
use Rattle.saber_dispatch.specs.Readings.{Reading, ReadNeeds, IsOpen}
use Rattle.saber_dispatch.specs.Filling.{Filling, Fills}
use Rattle.saber_dispatch.specs.FedReadings.{NothingWaits, EndTold}

-- these rows of a block were read by some reader of a query
abbrev pub IsBegun : Mark → Reading → Lefts → List Row → Type 0
IsBegun mark now left rows = (q : Tree) × (m : Mark) × (first : Reading) × (had : Lefts) × Filling (length rows) q m mark first now had left [] rows

-- these rows were read, fewer than a block has, and nothing is there as yet
pub record Paused (q : Tree) (size : ℕ) (m after : Mark) (old new : Reading) (had has : Lefts) (rows : List Row) : Type 0 where
  pub filling : Filling (length rows) q m after old new had has [] rows
  pub few : length rows < size
  pub needs : ReadNeeds Left new
  pub open_still : IsOpen new

-- what a block that was begun has come to
abbrev pub FillsFed : Progress → Tree → ℕ → Mark → Mark → Reading → Reading → Lefts → Lefts → List Row → Type 0
FillsFed Full q size m after old new had has rows = Fills (Ok tt) q size m after old new had has [] rows
FillsFed Dry q size m after old new had has rows = Paused q size m after old new had has rows
FillsFed (Ended end) q size m after old new had has rows = Fills (Err end) q size m after old new had has [] rows

-- whatever was read of it before
abbrev pub FillsFedOn : Progress → ℕ → Mark → Mark → Reading → Reading → Lefts → Lefts → List Row → List Row → Type 0
FillsFedOn progress size before after old new left has begun rows = (q : Tree) (m : Mark) (first : Reading) (had : Lefts) →
    Filling (length begun) q m before first old had left [] begun → FillsFed progress q size m after first new had has rows

-- what it tells of what waits and of the mark
abbrev pub ProgressTold : Progress → List ℕ → Option EndMark → Type 0
ProgressTold Full waiting mark = Unit {0}
ProgressTold Dry waiting mark = NothingWaits waiting mark
ProgressTold (Ended end) waiting mark = EndTold end waiting mark

-- where a block is short of rows it doesn't come, and only want of memory ends it
abbrev pub IsShortOf : Progress → Type 0
IsShortOf Full = ⊥
IsShortOf Dry = Unit {0}
IsShortOf (Ended end) = end ≡ NoMemory
