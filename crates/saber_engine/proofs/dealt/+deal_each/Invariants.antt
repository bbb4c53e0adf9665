use Rattle.std.proofs.Common.{length}
use Rattle.saber_engine.proofs.dealt.+deal_each.Given as goal

abbrev pub decreases-deal_each : goal.decreases-deal_each
decreases-deal_each l = length l.keepers.now
