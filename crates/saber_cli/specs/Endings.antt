-- How runs end, as the engine and as the command tell it.
use Rattle.std.specs.Prelude.{Bool, true, false, ◌≡◌, ℕ, List}
use Rattle.saber_plan.specs.declared.rows.Side.{Side}
use Rattle.saber_plan.specs.declared.rows.Side.TheVariants as sides
use Rattle.saber_plan.specs.Rows.{Read}
use Rattle.saber_plan.specs.Trees.{Tree}
use Rattle.saber_plan.specs.Tasks.{run_input}
use Rattle.saber_plan.specs.declared.ends.RunEnd.{RunEnd}
use Rattle.saber_plan.specs.declared.ends.RunEnd.TheVariants as ends
use Rattle.saber_plan.specs.Runs.{EndsAs}
use Rattle.saber_engine.specs.Sources.{RoseAt}
use Rattle.saber_notes.specs.declared.outcome.InputFile.{InputFile}
use Rattle.saber_notes.specs.declared.outcome.InputFile.TheVariants.{Left, Right}
use Rattle.saber_notes.specs.declared.outcome.Outcome.{Outcome}
use Rattle.saber_notes.specs.declared.outcome.Outcome.TheVariants.{Done, LineRefused, ChainLineRefused, ReadFault, TooWide, WriteFault, NoMemory}

-- the row file of a side
abbrev pub file_on : Side → InputFile
file_on sides.Left = Left
file_on sides.Right = Right

-- the outcome of a call whose run, on a ring of so many cells, ended so
abbrev pub ended_as : ℕ → RunEnd → Outcome
ended_as ring ends.AllRead = Done
ended_as ring (ends.Bad side line cause) = LineRefused side line cause
ended_as ring (ends.ReadFault side) = ReadFault (file_on side)
ended_as ring (ends.TooWide task need) = TooWide task need ring
ended_as ring ends.WriteFault = WriteFault
ended_as ring ends.NoMemory = NoMemory

-- behind a first query that ended so: this outcome, where its text is whole, and else its own
abbrev pub unless_cut : ℕ → RunEnd → Outcome → Outcome
unless_cut ring ends.AllRead o = o
unless_cut ring (ends.Bad side line cause) o = o
unless_cut ring first o = ended_as ring first

-- The outcome of a chain whose queries, each on a ring of so many cells, ended so, the second one with its stage stopped or not. A stage that was stopped, by
-- a write that failed or for want of memory, comes before all else. Then comes what cut the first one's text off: a fault of reading, a task that is too wide,
-- want of memory (it has no fault of writing; that would be told here too). Then, of a text that is whole: any other want of memory of the second one; the line
-- that it refuses; and else the end of the first one, a line refused or all done.
abbrev pub chained_as : ℕ → RunEnd → RunEnd → Bool → Outcome
chained_as ring first ends.WriteFault stopped = WriteFault
chained_as ring first ends.NoMemory true = NoMemory
chained_as ring first ends.NoMemory false = unless_cut ring first NoMemory
chained_as ring first (ends.Bad side line cause) stopped = unless_cut ring first (ChainLineRefused line cause)
chained_as ring first _ stopped = ended_as ring first

-- a fault of reading is told of a side only where that side's count of faults rose
abbrev pub ReadFaultsRose : Outcome → List ℕ → List ℕ → Type 0
ReadFaultsRose o old new = (side : Side) → o ≡ ReadFault (file_on side) → RoseAt side old new

-- The end of a run that an outcome tells. One that tells nothing of the rows and the tasks is like want of memory in this.
abbrev pub end_of : Outcome → RunEnd
end_of Done = ends.AllRead
end_of (LineRefused side line cause) = ends.Bad side line cause
end_of (TooWide task need ring) = ends.TooWide task need
end_of WriteFault = ends.WriteFault
end_of _ = ends.NoMemory

-- if the outcome tells how many cells the ring has, it has so many
abbrev pub IsOnRing : ℕ → Outcome → Type 0
IsOnRing ring (TooWide task need cells) = cells ≡ ring
IsOnRing ring _ = Unit {0}

-- the end that the outcome tells is that of these rows, in tasks of n on this ring
abbrev pub EndsSo : Tree → ℕ → ℕ → Bool → Read → Outcome → Type 0
EndsSo q n ring flush read o = EndsAs q n ring (run_input q flush read) (end_of o) read × IsOnRing ring o
