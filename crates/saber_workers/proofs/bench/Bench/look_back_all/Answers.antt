use Rattle.std.proofs.Common.{◌∙◌, subst}
use Rattle.saber_ring.specs.Calls.{NotLast}
use Rattle.saber_ring.specs.Words.{view, cells}
use Rattle.saber_workers.proofs.Works.{then_works, still_held}
use Rattle.saber_workers.proofs.bench.Bench.look_back_all.Goals as goal

pub returns-in-Held-clause-goes : goal.returns-in-Held-clause-goes
returns-in-Held-clause-goes g c = then_works (view c.args.seat.now) (view c.loop-next.seat) (view c.look_back_on.new.seat) c.loop-next.invariant.1 c.look_back_on.ensures.goes

pub returns-in-NoMemory-clause-goes : goal.returns-in-NoMemory-clause-goes
returns-in-NoMemory-clause-goes g c = then_works (view c.args.seat.now) (view c.loop-next.seat) (view c.look_back_on.new.seat) c.loop-next.invariant.1 c.look_back_on.ensures.goes

pub returns-in-Held-clause-looks : goal.returns-in-Held-clause-looks
returns-in-Held-clause-looks g c =
    let l = c.in-Held.ensures.looks in let i = c.loop-next.invariant in
    (l.0, still_held (cells c.args.self.now.ring.now) c.loop-next.next (view c.args.seat.now) (view c.loop-next.seat) (view c.look_back_on.new.seat) i.1 l.1, subst NotLast i.1.lead l.2)

pub loop-next-preserved : goal.loop-next-preserved
loop-next-preserved g c =
    let e = c.look_back_on.ensures in let i = c.loop-next.invariant in let l = c.in-In.ensures.looks in let k = e.kept in let was = i.2 in (
      e.ready,
      then_works (view c.args.seat.now) (view c.loop-next.seat) (view c.look_back_on.new.seat) i.1 e.goes,
      (k.0 ∙ was.0, k.1 ∙ was.1, k.2 ∙ was.2),
      l.0,
      l.1 ∙ i.4,
    )
