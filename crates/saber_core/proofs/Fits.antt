-- The fields of a core after an event.
use Rattle.std.proofs.Common.{◌≡◌, true, ◌+◌, ◌<◌, ◌^◌, sym, subst, arith}
use Rattle.std.proofs.lemmas.Bool.Decides.{nat_tests}
use Rattle.std.specs.VecDeque.{deque_capacity}
use Rattle.saber_core.specs.declared.machine.Core.TheInside.{Inside}
use Rattle.saber_core.specs.declared.events.Event.{Event}
use Rattle.saber_core.specs.declared.events.Event.TheVariants.{Fill}
use Rattle.saber_core.specs.Machine.{State, given_count, seat_of, is_seated, is_allowed, outcome, next}
use Rattle.saber_core.specs.Sound.{IsSound}
use Rattle.saber_core.specs.Fields.{state_of, FieldsFit}
use Rattle.saber_core.proofs.Sounds.{kept, sound_next}

-- fields that show the outcome of an event that applies, with the same room, fit
pub keeps_fit : (core core' : Inside) (s : State) (e : Event) → state_of core ≡ s → FieldsFit core → is_seated s.seats (seat_of e) ≡ true → is_allowed s e ≡ true
    → state_of core' ≡ outcome (state_of core) e → core'.size ≡ core.size → deque_capacity core'.phases ≡ deque_capacity core.phases → FieldsFit core'
keeps_fit core core' s e view fits seated allowed is size capacity =
    record {
      sound = subst IsSound (sym is) (kept (state_of core) e (subst (λ (z : State). is_seated z.seats (seat_of e) ≡ true) (sym view) seated) (subst (λ (z : State). is_allowed z e ≡ true) (sym view) allowed) fits.sound);
      some_slot = (let a = fits.some_slot in omega arith);
      slot_limit = (let a = fits.slot_limit in omega arith);
      room = (let a = fits.room in omega arith);
    }

-- a fill applies where there is a slot and a number
pub may_fill : (s : State) → s.filled < given_count s + s.size → s.filled < 2 ^ 42 → is_allowed s Fill ≡ true
may_fill s slot number = grind (arith, nat_tests)

-- what a core shows after an event is sound
pub sound_step : (core : Inside) (s s' : State) (e : Event) → state_of core ≡ s → FieldsFit core → s' ≡ next s e → IsSound s'
sound_step core s s' e view fits is = subst IsSound (sym is) (sound_next s e (subst IsSound view fits.sound))
