use Rattle.std.specs.VecDeque.{deque_len}
use Rattle.saber_engine.proofs.jobs.+end_each.Given as goal

abbrev pub decreases-end_each : goal.decreases-end_each
decreases-end_each g l = deque_len l.members.now
