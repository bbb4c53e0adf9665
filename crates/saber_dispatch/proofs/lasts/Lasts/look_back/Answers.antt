use Rattle.std.proofs.Common.{◌≡◌, ◌≤◌, ◌-◌, drop, ◌∙◌, ap, arith}
use Rattle.saber_plan.specs.Windows.{closed_count}
use Rattle.saber_plan.specs.Needs.{free_of}
use Rattle.saber_dispatch.proofs.LastBlocks.{at_least}
use Rattle.saber_dispatch.proofs.lasts.Lasts.look_back.Goals as goal

pub returns-clause-list : goal.returns-clause-list
returns-clause-list c =
    let closed = closed_count c.args.self.now.windows c.args.mark.now in
    let is : c.free_of-first.result ≡ free_of c.args.self.now.first c.args.self.now.list.items closed = c.free_of-first.ensures ∙ ap (free_of c.args.self.now.first c.args.self.now.list.items) c.closed_below.ensures.count in
    let low : c.args.self.now.first ≤ c.free_of-first.result = omega (arith, is, at_least c.args.self.now.list.items c.args.self.now.first closed) in
    let same : c.loop.counter ≡ c.free_of-first.result = omega (arith, c.loop-test.false, c.loop.auto.counter-end low) in
    c.loop.invariant.list ∙ ap (λ n. drop (n - c.args.self.now.first) c.args.self.now.list.items) same
