use Rattle.std.proofs.Common.{length}
use Rattle.saber_top.proofs.outs.+job_each.Given as goal

abbrev pub decreases-job_each : goal.decreases-job_each
decreases-job_each g l = length l.plans.now
