-- What the run of a plan comes to, over its inputs and over a feed: the clauses of the engine's calls in one.
use Rattle.std.specs.Prelude.{◌≡◌, ◌≢◌, ◌≤◌, ℕ, List, Option, Some}
use Rattle.saber_plan.specs.Outputs.{Rose}
use Rattle.saber_io.specs.declared.feeds.EndMark.{EndMark}
use Rattle.saber_io.specs.declared.feeds.EndMark.TheVariants as marks
use Rattle.saber_plan.specs.declared.rows.Side.{Side}
use Rattle.saber_plan.specs.declared.sizes.Sizes.{Sizes}
use Rattle.saber_plan.specs.Trees.{Tree}
use Rattle.saber_dispatch.specs.declared.inputs.Inputs.{Inputs}
use Rattle.saber_engine.specs.declared.ends.Ran.{Ran}
use Rattle.saber_plan.specs.declared.ends.RunEnd.TheVariants.{AllRead, ReadFault, WriteFault}
use Rattle.saber_engine.specs.Sources.{each_input, told_by, RoseAt, NoneFell, GaveAll}
use Rattle.saber_engine.specs.Gives.{GivesTold, WritesTold, LeavesWhole}
use Rattle.saber_plan.specs.Runs.{IsClean}
use Rattle.saber_engine.specs.FedRuns.{GivesFed, WritesFed, CutLeavesWhole}
use Rattle.saber_engine.specs.Endings.{MayStop}

module _ {S K : Type 0} (left : S → Option (List ℕ)) (faults : S → ℕ) (written : K → Option (List ℕ)) (failed made : K → ℕ) where
  -- Over inputs. What goes out is the text of the first tasks' rows: with all read, or a line refused, of all tasks, and of those before one
  -- that is too wide for the ring. There is one write for each of them that has text, and one more where it failed. A fault of reading leaves
  -- at least every whole task assembled of what was taken; what inputs have left are ends of what they had. Faults are real, none is passed
  -- over, and no count falls. The stage was stopped where a write failed, maybe where memory lacked, and at no other end.
  pub record RunsPlan (q : Tree) (s : Sizes) (had has : Inputs S) (sink : K) (ran : Ran K) : Type 0 where
    pub gives : GivesTold q s (told_by left had) (written sink) (written ran.sink) ran.end ran.tasks
    pub one_write : WritesTold q s (told_by left had) (made sink) (made ran.sink) ran.end ran.tasks
    pub whole : LeavesWhole q s (each_input left had) (each_input left has) ran.end ran.tasks
    pub takes : (taken : List (List ℕ)) × GaveAll (each_input left had) taken (each_input left has)
    pub read : (side : Side) → ran.end ≡ ReadFault side → RoseAt side (each_input faults had) (each_input faults has)
    pub write : ran.end ≡ WriteFault → Rose (failed sink) (failed ran.sink)
    pub read_good : IsClean ran.end → each_input faults has ≡ each_input faults had
    pub write_good : ran.end ≢ WriteFault → failed ran.sink ≡ failed sink
    pub reads : NoneFell (each_input faults had) (each_input faults has)
    pub writes : failed sink ≤ failed ran.sink
    pub stopped : MayStop ran.end ran.stopped

module _ {F K : Type 0} (taken : F → List ℕ) (mark : F → Option EndMark) (faults : F → ℕ) (written : K → Option (List ℕ)) (failed made : K → ℕ) where
  -- Over a feed, and each file that goes on from what was taken of it, and is this where the feed ended. All is read only where the feed has
  -- ended, and it can't be read only where it was cut off; a feed that is cut off leaves at least every whole task assembled. The rest is as
  -- over inputs.
  pub record RunsFed (q : Tree) (s : Sizes) (had has : F) (sink : K) (ran : Ran K) : Type 0 where
    pub gives : GivesFed q s (taken has) (mark has) (written sink) (written ran.sink) ran.end ran.tasks
    pub one_write : WritesFed q s (taken has) (mark has) (made sink) (made ran.sink) ran.end ran.tasks
    pub whole : CutLeavesWhole q s (taken has) ran.end ran.tasks
    pub all : ran.end ≡ AllRead → mark has ≡ Some marks.End
    pub cut : (side : Side) → ran.end ≡ ReadFault side → mark has ≡ Some marks.Cut
    pub read : (side : Side) → ran.end ≡ ReadFault side → Rose (faults had) (faults has)
    pub write : ran.end ≡ WriteFault → Rose (failed sink) (failed ran.sink)
    pub read_good : IsClean ran.end → faults has ≡ faults had
    pub write_good : ran.end ≢ WriteFault → failed ran.sink ≡ failed sink
    pub reads : faults had ≤ faults has
    pub writes : failed sink ≤ failed ran.sink
    pub stopped : MayStop ran.end ran.stopped
