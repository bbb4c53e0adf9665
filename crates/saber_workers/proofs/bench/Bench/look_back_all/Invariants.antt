use Rattle.std.proofs.Common.{◌≡◌, ◌-◌}
use Rattle.saber_ring.specs.Words.{view}
use Rattle.saber_workers.specs.Seats.{IsReady, WorksOn, SameTasks}
use Rattle.saber_workers.specs.Hands.{HasSoFar}
use Rattle.saber_workers.proofs.bench.Bench.look_back_all.Given as goal

abbrev pub invariant-loop-next : goal.invariant-loop-next
invariant-loop-next g l =
    IsReady l.self.ring.now l.seat × WorksOn (view l.fn.seat) (view l.seat) × SameTasks (view l.fn.seat) (view l.seat)
    × HasSoFar g.W.Work.upto g.W.Work.first (g.L.Labor.has_blocks l.self.op.now) l.job.task l.next l.draft (view l.seat).job × ((view l.seat).missed ≡ (view l.fn.seat).missed)

abbrev pub decreases-loop-next : goal.decreases-loop-next
decreases-loop-next g l = l.job.task - l.next
