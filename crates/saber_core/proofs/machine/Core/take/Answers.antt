-- The fields fit after a take.
use Rattle.std.proofs.Common.{◌≡◌, true, Some, rules, sym, refl, ap, ◌∙◌, arith, slice_set}
use Rattle.std.proofs.lemmas.Bool.Decides.{nat_tests}
use Rattle.saber_core.specs.declared.events.TaskPhase.TheVariants.{Taken}
use Rattle.saber_core.specs.declared.events.Event.TheVariants.{Take}
use Rattle.saber_core.specs.Machine.{State, given_count, phase_at, is_allowed, is_marked}
use Rattle.saber_core.specs.Fields.{state_of}
use Rattle.saber_core.proofs.Fits.{keeps_fit}
use Rattle.saber_core.proofs.machine.Core.take.Goals as goal

pub invariant_of-self : goal.invariant_of-self
invariant_of-self c =
    let allowed : is_allowed c.args.self.now (Take c.args.seat) ≡ true = search rules in
    let mark_is : c.in-Some-Done.mark ≡ is_marked (phase_at c.args.self.now (given_count c.args.self.now)) = search rules in
    keeps_fit c.self.inside _ c.args.self.now (Take c.args.seat) c.self.view_is c.self.invariant (let seat = c.requires in grind (arith, nat_tests)) allowed
    (λ i. record (state_of c.self.inside) { turn = Some (record { seat = c.args.seat; given = (c.given_count-given.ensures ∙ ap given_count (sym c.self.view_is)) i; taken = true }); phases = slice_set c.self.inside.phases.items 0 (Taken ((mark_is ∙ ap (λ (s : State). is_marked (phase_at s (given_count s))) (sym c.self.view_is)) i)) }) refl refl
