use Rattle.std.proofs.Common.{length}
use Rattle.saber_engine.proofs.jobs.+keepers_for.Given as goal

abbrev pub decreases-keepers_for : goal.decreases-keepers_for
decreases-keepers_for g l = length l.jobs.now
