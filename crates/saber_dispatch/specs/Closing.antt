-- A block of which all rows that come are there.
use Rattle.std.specs.Prelude.{◌≡◌, List, [], Some, None, Result, Err}
use Rattle.saber_plan.specs.declared.rows.Row.{Row}
use Rattle.saber_plan.specs.declared.rows.Side.{Side}
use Rattle.saber_plan.specs.declared.windows.Mark.{Mark}
use Rattle.saber_plan.specs.declared.sizes.Sizes.{Sizes}
use Rattle.saber_plan.specs.Inputs.{Input}
use Rattle.saber_plan.specs.Trees.{Tree}
use Rattle.saber_dispatch.specs.Sources.{Lefts}
use Rattle.saber_dispatch.specs.declared.ends.End.{End}
use Rattle.saber_dispatch.specs.declared.ends.End.TheVariants.{AllRead, ReadFault}
use Rattle.saber_dispatch.specs.declared.cutter.Cutter.{Cutter}
use Rattle.saber_dispatch.specs.Readings.{reading_of}
use Rattle.saber_dispatch.specs.Filling.{Fills}
use Rattle.saber_dispatch.specs.Cutting.{Cuts}

-- behind the blocks that a cutter gave, while so much was there, these rows were read, until there were enough or no more came
pub record Closes (q : Tree) (s : Sizes) (had has : Lefts) (c : Cutter) (r : Input) (filled : Result (Unit {0}) End) (before : Mark) (rows : List Row) : Type 0 where
  pub start : Cutter
  pub there : Lefts
  pub cuts : Cuts q s had there start r
  pub goes : start.ended ≡ None
  pub same : c ≡ record start { reader = c.reader; mark = c.mark }
  pub before_is : before ≡ start.mark
  pub fills : Fills filled q start.size start.mark c.mark (reading_of start.reader) (reading_of c.reader) there has [] rows

-- the reader stays, and where all is read, or a read failed, that ended the block
pub record ClosedBy (filled : Result (Unit {0}) End) (old new : Cutter) : Type 0 where
  pub reader : new.reader ≡ old.reader
  pub all : new.ended ≡ Some AllRead → filled ≡ Err AllRead
  pub fault : (side : Side) → new.ended ≡ Some (ReadFault side) → filled ≡ Err (ReadFault side)

-- the reader stays, and so does that all is read, or that a read failed
pub record EndStays (old new : Cutter) : Type 0 where
  pub reader : new.reader ≡ old.reader
  pub all : new.ended ≡ Some AllRead → old.ended ≡ Some AllRead
  pub fault : (side : Side) → new.ended ≡ Some (ReadFault side) → old.ended ≡ Some (ReadFault side)
