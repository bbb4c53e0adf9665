-- Worked lists of events, and what they lead to.
use Rattle.std.specs.Prelude.{◌≡◌, Bool, true, false, List, [], ◌∷◌, Some, None, refl}
use Rattle.saber_core.specs.declared.events.TaskPhase.TheVariants.{Ready, Taken}
use Rattle.saber_core.specs.declared.events.Event.{Event}
use Rattle.saber_core.specs.declared.events.Event.TheVariants.{Fill, Claim, Deposit, Win, Take, Give, Release}
use Rattle.saber_core.specs.Machine.{State, fresh, applies, next}
use Rattle.saber_core.specs.Runs.{state_after}

-- which of some events apply
abbrev applied : State → List Event → List Bool
applied s [] = []
applied s (e ∷ events) = applies s e ∷ applied (next s e) events

-- pieces that are handed in out of order are given in order: seat 1 finds nothing to take before task 0 is handed in
abbrev out_of_order : List Event
out_of_order =
    Fill ∷ Fill ∷ Claim 0 0 ∷ Claim 1 1 ∷ Deposit 1 1 false ∷ Win 1 ∷ Take 1 ∷ Release 1
    ∷ Deposit 0 0 false ∷ Win 0 ∷ Take 0 ∷ Give 0 ∷ Take 0 ∷ Give 0 ∷ Release 0 ∷ []

given_in_order : state_after (fresh 2 2) out_of_order ≡ record { size = 2; seats = 2; assembled = 2; filled = 2; turn = None; phases = [] }
given_in_order = refl

nothing_to_take : applied (fresh 2 2) out_of_order
    ≡ true ∷ true ∷ true ∷ true ∷ true ∷ true ∷ false ∷ true ∷ true ∷ true ∷ true ∷ true ∷ true ∷ true ∷ true ∷ []
nothing_to_take = refl

-- a mark is never given, and stops the stage
abbrev with_mark : List Event
with_mark = Fill ∷ Claim 0 0 ∷ Deposit 0 0 true ∷ Win 0 ∷ Take 0 ∷ Give 0 ∷ Release 0 ∷ Win 0 ∷ Take 0 ∷ []

stopped : state_after (fresh 1 1) with_mark
    ≡ record { size = 1; seats = 1; assembled = 0; filled = 1; turn = Some (record { seat = 0; given = 0; taken = false }); phases = Taken true ∷ [] }
stopped = refl

never_given : applied (fresh 1 1) with_mark ≡ true ∷ true ∷ true ∷ true ∷ true ∷ false ∷ true ∷ true ∷ false ∷ []
never_given = refl

-- a slot is filled again before the turn is released
filled_again : state_after (fresh 1 1) (Fill ∷ Claim 0 0 ∷ Deposit 0 0 false ∷ Win 0 ∷ Take 0 ∷ Give 0 ∷ Fill ∷ Release 0 ∷ [])
    ≡ record { size = 1; seats = 1; assembled = 1; filled = 2; turn = None; phases = Ready ∷ [] }
filled_again = refl
