-- What a text comes to before a run.
use Rattle.std.specs.Prelude.{ℕ, List}
use Rattle.saber_query.specs.declared.fault.QueryFault.{QueryFault as Fault}
use Rattle.saber_query.specs.declared.fault.QueryFault.TheVariants as fault
use Rattle.saber_check.specs.Texts.{HasFault}
use Rattle.saber_notes.specs.declared.outcome.Outcome.{Outcome}
use Rattle.saber_notes.specs.declared.outcome.Outcome.TheVariants.{QueryFault, NoMemory}

-- a fault of a text as an outcome
abbrev pub refusal : Fault → Outcome
refusal fault.NoMemory = NoMemory
refusal (fault.At byte cause) = QueryFault byte cause

-- why a text is refused
abbrev pub IsTextFault : List ℕ → Outcome → Type 0
IsTextFault text (QueryFault byte cause) = HasFault text byte cause
IsTextFault text NoMemory = Unit {0}
IsTextFault text _ = ⊥
