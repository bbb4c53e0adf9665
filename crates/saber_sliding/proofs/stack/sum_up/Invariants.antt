use Rattle.std.proofs.Common.{◌≡◌, ◌+◌, ◌-◌, ◌≤◌, length}
use Rattle.saber_sliding.proofs.Stacked.{sums_from}
use Rattle.saber_sliding.proofs.stack.sum_up.Given as goal

abbrev pub invariant-loop-i : goal.invariant-loop-i
invariant-loop-i g l = record {
  summed : l.parts ≡ sums_from (l.i - 1) l.fn.parts;
  long : l.i ≤ length l.fn.parts;
  steps : l.steps + l.i ≤ l.fn.steps + length l.fn.parts;
}

abbrev pub decreases-loop-i : goal.decreases-loop-i
decreases-loop-i g l = l.i
