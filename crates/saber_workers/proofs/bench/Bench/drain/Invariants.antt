use Rattle.std.proofs.Common.{◌≡◌, ◌-◌, false}
use Rattle.saber_ring.specs.declared.view.TurnState.TheVariants.{Open}
use Rattle.saber_ring.specs.Words.{view, table, table_of}
use Rattle.saber_workers.specs.Seats.{HasTurn, WorksOn, SameWork}
use Rattle.saber_workers.specs.Grows.{Grows}
use Rattle.saber_workers.specs.Lasts.{GaveAll}
use Rattle.saber_workers.proofs.bench.Bench.drain.Given as goal

abbrev pub invariant-loop : goal.invariant-loop
invariant-loop g l =
    (table l.seat ≡ table_of l.self.ring.now) × HasTurn g.W.Work.is_stage l.turn.behind l.turn.state l.turn.stage (view l.seat).turn × (l.turn.state ≡ Open)
    × WorksOn (view l.fn.seat) (view l.seat) × SameWork (view l.fn.seat) (view l.seat) × Grows (view l.fn.seat) (view l.seat) false
    × (GaveAll l.fn.turn.behind (view l.fn.seat).own → GaveAll l.turn.behind (view l.seat).own)

abbrev pub decreases-loop : goal.decreases-loop
decreases-loop g l = 4398046511104 - l.turn.behind
