-- Whether the stage of a run was stopped, by how the run ended.
use Rattle.std.proofs.Common.{◌≡◌, refl, sym, subst}
use Rattle.std.specs.Prelude.{Bool, false, Option, Some, None}
use Rattle.saber_plan.specs.declared.stages.StageState.{StageState}
use Rattle.saber_plan.specs.declared.stages.StageState.TheVariants as states
use Rattle.saber_crew.specs.declared.dispatch.Over.{Over}
use Rattle.saber_crew.specs.declared.dispatch.Over.TheVariants as over_by
use Rattle.saber_dispatch.specs.declared.ends.End.{End}
use Rattle.saber_dispatch.specs.declared.ends.End.TheVariants as cut
use Rattle.saber_plan.specs.declared.ends.RunEnd.{RunEnd}
use Rattle.saber_engine.specs.Endings.{given_end, end_of, is_stopped, MayStop}

-- the end of the blocks stops no stage
given_goes_on : (end : Option End) → MayStop (given_end end) false
given_goes_on None = tt
given_goes_on (Some cut.AllRead) = refl
given_goes_on (Some (cut.Bad side line cause)) = refl
given_goes_on (Some (cut.ReadFault side)) = refl
given_goes_on (Some (cut.TooWide task need)) = refl
given_goes_on (Some cut.NoMemory) = tt

may : (state : StageState) (over : Over) (end : Option End) → MayStop (end_of state over end) (is_stopped state)
may states.Running over_by.AllGiven end = given_goes_on end
may states.Running over_by.Stopped end = tt
may states.Running over_by.NoMemory end = tt
may states.SinkFailed over end = refl
may states.NoMemory over end = tt

-- a run that ended by these, and told so
pub may_stop : (state : StageState) (over : Over) (end : Option End) (told : RunEnd) (stopped : Bool) → told ≡ end_of state over end → stopped ≡ is_stopped state → MayStop told stopped
may_stop state over end told stopped e s = subst (λ b. MayStop told b) (sym s) (subst (λ x. MayStop x (is_stopped state)) (sym e) (may state over end))
