use Rattle.std.proofs.Common.{◌≡◌, length}
use Rattle.saber_sliding.specs.Entries.{dropped_entries}
use Rattle.saber_sliding.proofs.ones.drop_front.Given as goal

abbrev pub invariant-loop-number : goal.invariant-loop-number
invariant-loop-number l = dropped_entries l.i l.front ≡ dropped_entries l.i l.fn.front

abbrev pub decreases-loop-number : goal.decreases-loop-number
decreases-loop-number l = length l.front
