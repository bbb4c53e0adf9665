use Rattle.saber_crew.specs.Leaders.{GoesOn}
use Rattle.saber_crew.proofs.leader.Leader.work_while_dry.Given as goal

abbrev pub invariant-loop : goal.invariant-loop
invariant-loop g l = GoesOn l.fn.self l.self
