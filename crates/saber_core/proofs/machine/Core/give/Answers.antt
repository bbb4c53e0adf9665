-- The fields fit after a give.
use Rattle.std.proofs.Common.{◌≡◌, true, false, ◌+◌, Some, rules, sym, refl, ap, ◌∙◌, arith}
use Rattle.std.proofs.lemmas.Bool.Decides.{nat_tests}
use Rattle.saber_core.specs.declared.events.Event.TheVariants.{Give}
use Rattle.saber_core.specs.Machine.{given_count, is_allowed}
use Rattle.saber_core.specs.Fields.{state_of}
use Rattle.saber_core.proofs.Fits.{keeps_fit}
use Rattle.saber_core.proofs.machine.Core.give.Goals as goal

pub invariant_of-self : goal.invariant_of-self
invariant_of-self c =
    let allowed : is_allowed c.args.self.now (Give c.args.seat) ≡ true = search rules in
    keeps_fit c.self.inside _ c.args.self.now (Give c.args.seat) c.self.view_is c.self.invariant (let seat = c.requires in grind (arith, nat_tests)) allowed
    (λ i. record (state_of c.self.inside) { turn = Some (record { seat = c.args.seat; given = (c.given_count-given.ensures ∙ ap given_count (sym c.self.view_is)) i + 1; taken = false }); phases = c.pop_front.ensures.rest i }) refl c.pop_front.ensures.capacity
