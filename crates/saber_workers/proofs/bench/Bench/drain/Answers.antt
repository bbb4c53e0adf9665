use Rattle.std.proofs.Common.{◌∙◌, subst}
use Rattle.saber_ring.specs.Words.{view}
use Rattle.saber_ring.specs.Plays.{is_stopped}
use Rattle.saber_workers.specs.Grows.{Grows}
use Rattle.saber_workers.proofs.Grows.{then_grows}
use Rattle.saber_workers.proofs.Works.{then_works}
use Rattle.saber_workers.proofs.bench.Bench.drain.Goals as goal

pub loop-preserved : goal.loop-preserved
loop-preserved g c =
    let e = c.take_next.ensures in let i = c.loop.invariant in let o = e.went c.loop-test.true in let k = e.kept in let w = i.4 in let v = view c.args.seat.now in let m = view c.loop.seat in let n = view c.take_next.new.seat in (
      e.own,
      e.turn,
      o.0,
      then_works v m n i.3 e.goes,
      (k.0 ∙ w.0, k.1 ∙ w.1, k.2 ∙ w.2, k.3 ∙ w.3),
      then_grows v m n _ i.5 (subst (λ z. Grows m n (is_stopped z)) o.0 e.grows),
      λ gave. e.given (i.6 gave),
    )

pub returns-clause-goes : goal.returns-clause-goes
returns-clause-goes g c = then_works (view c.args.seat.now) (view c.loop.seat) (view c.take_next.new.seat) c.loop.invariant.3 c.take_next.ensures.goes

pub returns-clause-grows : goal.returns-clause-grows
returns-clause-grows g c = then_grows (view c.args.seat.now) (view c.loop.seat) (view c.take_next.new.seat) _ c.loop.invariant.5 c.take_next.ensures.grows
