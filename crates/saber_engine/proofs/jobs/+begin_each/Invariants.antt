use Rattle.std.proofs.Common.{length}
use Rattle.saber_engine.proofs.jobs.+begin_each.Given as goal

abbrev pub decreases-begin_each : goal.decreases-begin_each
decreases-begin_each g l = length l.operators.now
