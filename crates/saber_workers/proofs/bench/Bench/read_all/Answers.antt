use Rattle.std.proofs.Common.{◌∙◌}
use Rattle.saber_ring.specs.Words.{view}
use Rattle.saber_workers.proofs.Works.{then_works}
use Rattle.saber_workers.proofs.Grows.{then_grows}
use Rattle.saber_workers.proofs.bench.Bench.read_all.Goals as goal

pub returns-then-is_none-clause-goes : goal.returns-then-is_none-clause-goes
returns-then-is_none-clause-goes g c = then_works (view c.args.seat.now) (view c.loop.seat) (view c.read_in.new.seat) c.loop.invariant.2 c.read_in.ensures.reads.goes

pub returns-then-is_none-clause-grows : goal.returns-then-is_none-clause-grows
returns-then-is_none-clause-grows g c = then_grows (view c.args.seat.now) (view c.loop.seat) (view c.read_in.new.seat) _ c.loop.invariant.3 c.read_in.ensures.reads.grows

pub loop-preserved : goal.loop-preserved
loop-preserved g c =
    let e = c.read_in.ensures in let i = c.loop.invariant in let v = view c.args.seat.now in let m = view c.loop.seat in let n = view c.read_in.new.seat in (
      e.ready,
      e.hand,
      then_works v m n i.2 e.reads.goes,
      then_grows v m n _ i.3 e.reads.grows,
      e.reads.saw ∙ i.4,
    )
