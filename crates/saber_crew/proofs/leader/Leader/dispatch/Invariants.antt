use Rattle.std.proofs.Common.{◌≡◌, ◌≤◌, ◌+◌, ◌-◌}
use Rattle.saber_crew.specs.Dispatches.{AllDispatched, AreFrees}
use Rattle.saber_crew.specs.Leaders.{SameRing}
use Rattle.saber_crew.proofs.leader.Leader.dispatch.Given as goal

abbrev pub invariant-loop-own : goal.invariant-loop-own
invariant-loop-own g l =
    SameRing l.fn.self l.self × (l.self.seat.base ≡ l.fn.self.seat.base)
    × AllDispatched g.W.Work.is_told g.W.Work.upto (g.P.Supply.has_given l.supply l.from) l.tasks l.fn.self.seat.lead l.self.seat.lead × (l.tasks ≤ 4398046511104)
    × AreFrees g.W.Work.upto g.W.Work.first l.tasks l.frees l.self.seat.lead
    × (l.frees.base ≤ l.self.seat.seen) × (l.tasks ≤ l.self.seat.seen + l.self.size)

abbrev pub decreases-loop-own : goal.decreases-loop-own
decreases-loop-own g l = 4398046511104 - l.tasks
