use Rattle.std.proofs.Common.{◌+◌, ◌*◌}
use Rattle.saber_crew.proofs.crew.+crew+fn-crew-join_mut+arg3.Given as goal

abbrev pub decreases-crew : goal.decreases-crew
decreases-crew g l = 2 * l.threads

abbrev pub decreases-join_mut+arg3 : goal.decreases-join_mut+arg3
decreases-join_mut+arg3 g l = 2 * l.less + 1
