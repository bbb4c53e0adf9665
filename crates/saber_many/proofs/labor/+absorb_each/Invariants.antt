use Rattle.std.proofs.Common.{length}
use Rattle.saber_many.proofs.labor.+absorb_each.Given as goal

abbrev pub decreases-absorb_each : goal.decreases-absorb_each
decreases-absorb_each g l = length l.labors.now
