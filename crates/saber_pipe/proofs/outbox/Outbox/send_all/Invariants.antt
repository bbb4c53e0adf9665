use Rattle.saber_pipe.specs.Outboxes.{Moves}
use Rattle.saber_pipe.proofs.outbox.Outbox.send_all.Given as goal

abbrev pub invariant-loop : goal.invariant-loop
invariant-loop g l = Moves l.initial.self l.self
