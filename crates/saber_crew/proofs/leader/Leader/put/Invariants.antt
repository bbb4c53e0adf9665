use Rattle.std.proofs.Common.{◌≡◌}
use Rattle.saber_crew.specs.Leaders.{FillsOn}
use Rattle.saber_crew.proofs.leader.Leader.put.Given as goal

abbrev pub invariant-loop : goal.invariant-loop
invariant-loop g l = FillsOn l.fn.self l.self × (l.self.seat.lead ≡ l.fn.self.seat.lead) × (l.rows ≡ l.fn.rows)
