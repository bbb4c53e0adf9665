use Rattle.std.proofs.Common.{◌+◌, ◌≤◌, length}
use Rattle.saber_sliding.proofs.Entered.{Turned}
use Rattle.saber_sliding.proofs.groups.sum_up.Given as goal

abbrev pub invariant-loop-alloc : goal.invariant-loop-alloc
invariant-loop-alloc g l = record {
  turned : Turned l.fn.back.items l.back.items l.front.items;
  low : l.gone ≤ length l.back.items;
  steps : l.steps + length l.back.items ≤ l.fn.steps + length l.fn.back.items;
}

abbrev pub decreases-loop-alloc : goal.decreases-loop-alloc
decreases-loop-alloc g l = length l.back.items
