use Rattle.std.proofs.Common.{length}
use Rattle.saber_top.proofs.plans.+first_unlike.Given as goal

abbrev pub decreases-first_unlike : goal.decreases-first_unlike
decreases-first_unlike l = length l.plans.now
