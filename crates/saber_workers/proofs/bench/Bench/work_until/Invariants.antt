use Rattle.std.proofs.Common.{false}
use Rattle.saber_ring.specs.Words.{view}
use Rattle.saber_workers.specs.Seats.{IsReady, WorksOn}
use Rattle.saber_workers.specs.Hands.{IsHandOf}
use Rattle.saber_workers.specs.Grows.{Grows}
use Rattle.saber_workers.proofs.bench.Bench.work_until.Given as goal

abbrev pub invariant-loop : goal.invariant-loop
invariant-loop g l =
    IsReady l.self.ring.now l.seat × IsHandOf g.W.Work.upto g.W.Work.first (g.L.Labor.suits l.self.op.now) (g.L.Labor.has_blocks l.self.op.now) (view l.seat).job l.hand
    × WorksOn (view l.fn.seat) (view l.seat) × Grows (view l.fn.seat) (view l.seat) false
