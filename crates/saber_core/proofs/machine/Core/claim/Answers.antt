-- The fields fit after a claim.
use Rattle.std.proofs.Common.{◌≡◌, true, ◌-◌, rules, sym, refl, ap, ◌∙◌, arith, slice_set}
use Rattle.std.proofs.lemmas.Bool.Decides.{nat_tests}
use Rattle.saber_core.specs.declared.events.TaskPhase.TheVariants.{Held}
use Rattle.saber_core.specs.declared.events.Event.TheVariants.{Claim}
use Rattle.saber_core.specs.Machine.{given_count, is_allowed}
use Rattle.saber_core.specs.Fields.{state_of}
use Rattle.saber_core.proofs.Fits.{keeps_fit}
use Rattle.saber_core.proofs.machine.Core.claim.Goals as goal

pub invariant_of-self : goal.invariant_of-self
invariant_of-self c =
    let allowed : is_allowed c.args.self.now (Claim c.args.seat c.args.task) ≡ true = search rules in
    keeps_fit c.self.inside _ c.args.self.now (Claim c.args.seat c.args.task) c.self.view_is c.self.invariant (let seat = c.requires in grind (arith, nat_tests)) allowed
    (λ i. record (state_of c.self.inside) { phases = slice_set c.self.inside.phases.items (c.args.task - (c.given_count.ensures ∙ ap given_count (sym c.self.view_is)) i) (Held c.args.seat) }) refl refl
