-- How a run ends, by its stage and its blocks.
use Rattle.std.specs.Prelude.{◌≡◌, Bool, true, false, Option, Some, None}
use Rattle.saber_plan.specs.declared.stages.StageState.{StageState}
use Rattle.saber_plan.specs.declared.stages.StageState.TheVariants as states
use Rattle.saber_crew.specs.declared.dispatch.Over.{Over}
use Rattle.saber_crew.specs.declared.dispatch.Over.TheVariants as over_by
use Rattle.saber_dispatch.specs.declared.ends.End.{End}
use Rattle.saber_dispatch.specs.declared.ends.End.TheVariants as cuts
use Rattle.saber_plan.specs.declared.ends.RunEnd.{RunEnd}
use Rattle.saber_plan.specs.declared.ends.RunEnd.TheVariants.{AllRead, Bad, ReadFault, TooWide, WriteFault, NoMemory}

-- the end of the blocks, where the stage goes on and all that were given are filled
abbrev pub given_end : Option End → RunEnd
given_end None = NoMemory
given_end (Some cuts.AllRead) = AllRead
given_end (Some (cuts.Bad side line cause)) = Bad side line cause
given_end (Some (cuts.ReadFault side)) = ReadFault side
given_end (Some (cuts.TooWide task need)) = TooWide task need
given_end (Some cuts.NoMemory) = NoMemory

-- where the stage goes on, by why no more blocks were filled
abbrev pub filled_end : Over → Option End → RunEnd
filled_end over_by.AllGiven end = given_end end
filled_end over_by.Stopped end = NoMemory
filled_end over_by.NoMemory end = NoMemory

-- the stage's comes first
abbrev pub end_of : StageState → Over → Option End → RunEnd
end_of states.Running over end = filled_end over end
end_of states.SinkFailed over end = WriteFault
end_of states.NoMemory over end = NoMemory

-- the stage was stopped, by a write that failed or for want of memory
abbrev pub is_stopped : StageState → Bool
is_stopped states.Running = false
is_stopped states.SinkFailed = true
is_stopped states.NoMemory = true

-- Whether the stage was stopped, by how the run ended: a write that failed stopped it, want of memory may have, and at any other end it went on.
abbrev pub MayStop : RunEnd → Bool → Type 0
MayStop WriteFault stopped = stopped ≡ true
MayStop NoMemory stopped = Unit {0}
MayStop _ stopped = stopped ≡ false
