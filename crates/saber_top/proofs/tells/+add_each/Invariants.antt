use Rattle.std.proofs.Common.{length}
use Rattle.saber_top.proofs.tells.+add_each.Given as goal

abbrev pub decreases-add_each : goal.decreases-add_each
decreases-add_each g l = length l.parts.now
