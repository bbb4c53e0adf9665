use Rattle.std.proofs.Common.{sym, subst}
use Rattle.saber_workers.specs.Seats.{OfBase}
use Rattle.saber_crew.specs.Leaders.{GoesOn, seen_at}
use Rattle.saber_crew.proofs.Leading.{goes_by}
use Rattle.saber_crew.proofs.leader.Leader.turn.Goals as goal

pub invariant_of-self : goal.invariant_of-self
invariant_of-self g c =
    let e = c.turn_of_work-turned.ensures in let i = c.self.invariant in
    record { ready = e.ready; base = subst (OfBase (g.L.Labor.suits c.self.inside.bench.now.op.now)) (sym e.goes.base) i.base; in_hand = e.hand }

pub returns-clause-goes : goal.returns-clause-goes
returns-clause-goes g c =
    let e = c.turn_of_work-turned.ensures in let ring = c.self.inside.bench.now.ring.now in
    subst (λ v. GoesOn v (seen_at ring c.turn_of_work-turned.new.seat)) c.self.view_is (goes_by ring c.self.inside.seat c.turn_of_work-turned.new.seat c.self.invariant.ready e.ready e.goes)
