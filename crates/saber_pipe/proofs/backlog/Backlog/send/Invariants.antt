use Rattle.saber_pipe.specs.Backlogs.{Moved}
use Rattle.saber_pipe.proofs.backlog.Backlog.send.Given as goal

abbrev pub invariant-loop : goal.invariant-loop
invariant-loop g l = Moved l.initial.backlog l.backlog
