use Rattle.std.proofs.Common.{◌∙◌, sym, subst}
use Rattle.saber_ring.specs.Words.{view}
use Rattle.saber_workers.specs.Grows.{Grows}
use Rattle.saber_workers.proofs.Works.{then_works}
use Rattle.saber_workers.proofs.Grows.{then_grows, even_grows}
use Rattle.saber_workers.proofs.bench.Bench.work_until.Goals as goal

pub returns-then-load-clause-grows : goal.returns-then-load-clause-grows
returns-then-load-clause-grows g c = even_grows (view c.args.seat.now) (view c.loop.seat) (view c.loop.seat).stopped c.loop.invariant.3

pub returns-then-turned-clause-goes : goal.returns-then-turned-clause-goes
returns-then-turned-clause-goes g c = then_works (view c.args.seat.now) (view c.loop.seat) (view c.turn_of_work-turned.new.seat) c.loop.invariant.2 c.turn_of_work-turned.ensures.goes

pub returns-then-turned-clause-grows : goal.returns-then-turned-clause-grows
returns-then-turned-clause-grows g c =
    let turned = c.turn_of_work-turned in let e = turned.ensures in let v = view c.args.seat.now in let w = view c.loop.seat in let u = view turned.new.seat in
    then_grows v w u u.stopped c.loop.invariant.3 (subst (Grows w u) (c.if-turned.true ∙ sym (e.stops c.if-turned.true)) e.grows)

pub loop-preserved : goal.loop-preserved
loop-preserved g c =
    let turned = c.turn_of_work-turned in let e = turned.ensures in let i = c.loop.invariant in let v = view c.args.seat.now in let m = view c.loop.seat in let n = view turned.new.seat in (
      e.ready,
      e.hand,
      then_works v m n i.2 e.goes,
      then_grows v m n _ i.3 (subst (Grows m n) c.if-turned.false e.grows),
    )
