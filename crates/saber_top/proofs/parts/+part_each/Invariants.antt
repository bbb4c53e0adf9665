use Rattle.std.specs.VecDeque.{deque_len}
use Rattle.saber_top.proofs.parts.+part_each.Given as goal

abbrev pub decreases-part_each : goal.decreases-part_each
decreases-part_each g l = deque_len l.rans.now
