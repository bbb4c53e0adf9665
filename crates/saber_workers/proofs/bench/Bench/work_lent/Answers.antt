use Rattle.std.proofs.Common.{sym, subst}
use Rattle.saber_ring.specs.Words.{view}
use Rattle.saber_workers.specs.Grows.{Grows}
use Rattle.saber_workers.proofs.Works.{then_works}
use Rattle.saber_workers.proofs.Grows.{grows_then}
use Rattle.saber_workers.proofs.bench.Bench.work_lent.Goals as goal

pub returns-clause-goes : goal.returns-clause-goes
returns-clause-goes g c = then_works (view c.args.seat.now) (view c.work_until.new.seat) (view c.finish_hand.new.seat) c.work_until.ensures.goes c.finish_hand.ensures.goes

pub returns-clause-grows : goal.returns-clause-grows
returns-clause-grows g c =
    let v = view c.args.seat.now in let w = view c.work_until.new.seat in let u = view c.finish_hand.new.seat in
    subst (Grows v u) (sym c.finish_hand.ensures.saw) (grows_then v w u w.stopped c.work_until.ensures.grows c.finish_hand.ensures.grows)
