-- Whether the second query's stage was stopped.
use Rattle.std.specs.Prelude.{◌≡◌, Bool, Option, None, Some, false}
use Rattle.saber_plan.specs.declared.ends.RunEnd.{RunEnd}
use Rattle.saber_plan.specs.declared.ends.RunEnd.TheVariants.{NoMemory}
use Rattle.saber_engine.specs.Endings.{MayStop}

-- By how both queries ended: as the engine has it; and it had no stage only where memory lacked before either was run.
abbrev pub SecondStops : RunEnd → RunEnd → Option Bool → Type 0
SecondStops first second None = (first ≡ NoMemory) × (second ≡ NoMemory)
SecondStops first second (Some stopped) = MayStop second stopped

-- no stage wasn't stopped
abbrev pub stopped_of : Option Bool → Bool
stopped_of None = false
stopped_of (Some stopped) = stopped
