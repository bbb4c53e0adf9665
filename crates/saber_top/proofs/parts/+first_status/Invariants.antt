use Rattle.std.proofs.Common.{length}
use Rattle.saber_top.proofs.parts.+first_status.Given as goal

abbrev pub decreases-first_status : goal.decreases-first_status
decreases-first_status g l = length l.parts.now
