-- The rows of a feed, cut into blocks (this project's rule).
use Rattle.std.specs.Prelude.{Bool, ◌≡◌, ◌<◌, ◌⊎◌, ℕ, length, List, [], Option, Some, None}
use Rattle.saber_io.specs.declared.feeds.EndMark.{EndMark}
use Rattle.saber_plan.specs.declared.rows.Row.{Row}
use Rattle.saber_plan.specs.declared.rows.Side.TheVariants.{Left}
use Rattle.saber_plan.specs.declared.windows.Mark.{Mark}
use Rattle.saber_plan.specs.declared.sizes.Sizes.{Sizes}
use Rattle.saber_plan.specs.Inputs.{Input, going_on}
use Rattle.saber_plan.specs.Trees.{Tree}
use Rattle.saber_fragment.specs.declared.blocks.Block.{Block}
use Rattle.saber_dispatch.specs.declared.ends.End.{End}
use Rattle.saber_dispatch.specs.declared.ends.End.TheVariants.{NoMemory}
use Rattle.saber_dispatch.specs.declared.cutter.Cutter.{Cutter}
use Rattle.saber_dispatch.specs.declared.cutter.Cut.{Cut}
use Rattle.saber_dispatch.specs.declared.cutter.Cut.TheVariants as cuts
use Rattle.saber_dispatch.specs.declared.fed_cutter.Begun.{Begun}
use Rattle.saber_dispatch.specs.declared.fed_cutter.FedCutter.{FedCutter}
use Rattle.saber_dispatch.specs.declared.fed_cutter.Step.{Step}
use Rattle.saber_dispatch.specs.declared.fed_cutter.Step.TheVariants as steps
use Rattle.saber_dispatch.specs.Readings.{reading_of, IsOpen, ReadNeeds}
use Rattle.saber_dispatch.specs.Filling.{Filling}
use Rattle.saber_dispatch.specs.FedReadings.{only, AreFew, IsSeen, EndTold, NothingWaits}
use Rattle.saber_dispatch.specs.Cutting.{Cuts, end_of, IsNextBlock, and_block}

-- Behind the blocks that a cutter gave, while so much was there, a block was begun; these rows were read since, fewer than a block has.
pub record Begins (q : Tree) (s : Sizes) (taken waiting : List ℕ) (c : Cutter) (r : Input) (before : Mark) (rows : List Row) : Type 0 where
  pub start : Cutter
  pub there : List ℕ
  pub cuts : Cuts q s (only taken) (only there) start r
  pub goes : start.ended ≡ None
  pub same : c ≡ record start { reader = c.reader; mark = c.mark }
  pub before_is : before ≡ start.mark
  pub filling : Filling (length rows) q before c.mark (reading_of start.reader) (reading_of c.reader) (only there) (only waiting) [] rows
  pub few : length rows < s.task
  pub open_still : IsOpen (reading_of c.reader)

-- the blocks given are the tasks of this input, and the rows of the next are those of a block that is begun, if one is
abbrev pub Gave : Tree → Sizes → List ℕ → List ℕ → Cutter → Input → Option Begun → Type 0
Gave q s taken waiting c r None = Cuts q s (only taken) (only waiting) c r
Gave q s taken waiting c r (Some b) = Begins q s taken waiting c r b.before b.rows

-- what was seen of a feed's end is its mark
pub record Agrees (c : Cutter) (waiting : List ℕ) (mark : Option EndMark) : Type 0 where
  pub seen : IsSeen (reading_of c.reader) mark
  pub told : (e : End) → c.ended ≡ Some e → EndTold e waiting mark

-- Over a feed of which these bytes were taken, the last of them still waiting, with this mark if one was taken: the blocks given are the tasks of this input.
pub record CutsFed (q : Tree) (s : Sizes) (taken waiting : List ℕ) (mark : Option EndMark) (c : FedCutter) (r : Input) : Type 0 where
  pub gave : Gave q s taken waiting c.cutter r c.begun
  pub agrees : Agrees c.cutter waiting mark

-- whatever was given, a block is begun
abbrev pub BeginsOn : FedCutter → Begun → Type 0
BeginsOn c b = (q : Tree) (s : Sizes) (taken waiting : List ℕ) (r : Input) →
    Gave q s taken waiting c.cutter r c.begun → Begins q s taken waiting c.cutter r b.before b.rows

-- why no more blocks come
abbrev pub fed_end_of : FedCutter → Option End
fed_end_of c = end_of c.cutter

-- nothing was given, and all that was taken waits
abbrev pub CutsNothingFed : Tree → Sizes → FedCutter → Type 0
CutsNothingFed q s c = (bytes : List ℕ) (mark : Option EndMark) → CutsFed q s bytes bytes mark c (going_on [])

-- The next block isn't whole: no line that the reader holds gives a row or is refused, nothing waits, and no mark was taken.
pub record IsDry (waiting : List ℕ) (mark : Option EndMark) (c : FedCutter) : Type 0 where
  pub unended : fed_end_of c ≡ None
  pub needs : ReadNeeds Left (reading_of c.cutter.reader)
  pub nothing : NothingWaits waiting mark

-- how many rows of the block that is begun there are
abbrev pub begun_count : Option Begun → ℕ
begun_count None = 0
begun_count (Some b) = length b.rows

-- The next block isn't whole with all that waits: the whole lines have too few rows, and none of them is refused; and no mark was taken.
pub record IsShort (waiting : List ℕ) (mark : Option EndMark) (c : FedCutter) : Type 0 where
  pub unended : fed_end_of c ≡ None
  pub few : AreFew c.cutter.size (begun_count c.begun) (reading_of c.cutter.reader) waiting mark

-- it is dry, or there was no memory
abbrev pub IsWaiting : Step → Type 0
IsWaiting step = (step ≡ steps.Dry) ⊎ (step ≡ steps.Ended NoMemory)

-- behind the rows of a block that was begun, where all that waits has too few more
abbrev pub WaitsIfFew : Cutter → Begun → List ℕ → Option EndMark → Step → Type 0
WaitsIfFew c b waiting mark step = AreFew c.size (length b.rows) (reading_of c.reader) waiting mark → IsWaiting step

-- a block of a cutter, or an end, as a step
abbrev pub step_of : Cut → Step
step_of (cuts.Block b) = steps.Block b
step_of (cuts.Ended e) = steps.Ended e

-- what a call comes to
abbrev pub StepTo : Step → Tree → Sizes → List ℕ → List ℕ → Option EndMark → FedCutter → Input → Type 0
StepTo (steps.Block b) q s taken waiting mark new r = IsNextBlock q s r b × CutsFed q s taken waiting mark new (and_block r b)
StepTo steps.Dry q s taken waiting mark new r = IsDry waiting mark new × CutsFed q s taken waiting mark new r
StepTo (steps.Ended e) q s taken waiting mark new r = (fed_end_of new ≡ Some e) × CutsFed q s taken waiting mark new r

-- whatever block was begun
abbrev pub StepsFrom : Begun → Step → List ℕ → List ℕ → List ℕ → Option EndMark → Cutter → FedCutter → Type 0
StepsFrom b step taken had has mark old new = (q : Tree) (s : Sizes) (r : Input) → Begins q s taken had old r b.before b.rows → StepTo step q s taken has mark new r

-- whatever was given before
abbrev pub StepsOn : Step → List ℕ → List ℕ → List ℕ → Option EndMark → FedCutter → FedCutter → Type 0
StepsOn step taken had has mark old new = (q : Tree) (s : Sizes) (r : Input) → CutsFed q s taken had mark old r → StepTo step q s taken has mark new r

-- Whatever was given before the block with this number, which was given last and whole: behind it no more blocks come, as if it hadn't been there.
abbrev pub TakenBackFed : ℕ → Bool → FedCutter → FedCutter → Type 0
TakenBackFed number ended old new = (q : Tree) (s : Sizes) (taken left has : List ℕ) (mark : Option EndMark) (before : FedCutter) (r : Input) (b : Block) →
    b.number ≡ number → b.ended ≡ ended → CutsFed q s taken left mark before r → IsNextBlock q s r b → CutsFed q s taken has mark old (and_block r b) → old.begun ≡ None →
    StepTo (steps.Ended NoMemory) q s taken has mark new r
