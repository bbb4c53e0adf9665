-- The fields fit after a fill.
use Rattle.std.proofs.Common.{◌+◌, ◌<◌, refl, ap, arith}
use Rattle.saber_core.specs.declared.events.Event.TheVariants.{Fill}
use Rattle.saber_core.specs.Machine.{given_count}
use Rattle.saber_core.specs.Fields.{state_of}
use Rattle.saber_core.proofs.Fits.{keeps_fit, may_fill}
use Rattle.saber_core.proofs.machine.Core.fill.Goals as goal

pub invariant_of-self : goal.invariant_of-self
invariant_of-self c =
    let slot : c.self.inside.filled < given_count (state_of c.self.inside) + c.self.inside.size = (let same = ap given_count c.self.view_is in let is = c.given_count.ensures in let t = c.if-self-given_count.true in omega arith) in
    keeps_fit c.self.inside _ (state_of c.self.inside) Fill refl c.self.invariant refl (may_fill (state_of c.self.inside) slot c.if-self-lt-TASK_LIMIT.true)
    (λ i. record (state_of c.self.inside) { filled = c.self.inside.filled + 1; phases = c.push_back_reserved.ensures.items i }) refl c.push_back_reserved.ensures.capacity
