use Rattle.std.proofs.Common.{length}
use Rattle.saber_engine.proofs.jobs.+counts_for.Given as goal

abbrev pub decreases-counts_for : goal.decreases-counts_for
decreases-counts_for g l = length l.jobs.now
