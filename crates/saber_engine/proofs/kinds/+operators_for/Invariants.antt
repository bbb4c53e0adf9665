use Rattle.std.proofs.Common.{length}
use Rattle.saber_engine.proofs.kinds.+operators_for.Given as goal

abbrev pub decreases-operators_for : goal.decreases-operators_for
decreases-operators_for g l = length l.jobs.now
