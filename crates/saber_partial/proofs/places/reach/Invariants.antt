use Rattle.std.proofs.Common.{◌-◌, ◌≤◌, length}
use Rattle.saber_partial.specs.Sorted.{AllBelow}
use Rattle.saber_partial.proofs.places.reach.Given as goal

abbrev pub invariant-loop-i : goal.invariant-loop-i
invariant-loop-i l = record {
  more : l.from ≤ l.i;
  within : l.i ≤ length l.groups.entries;
  below : AllBelow l.groups.entries l.from l.i l.key;
}

abbrev pub decreases-loop-i : goal.decreases-loop-i
decreases-loop-i l = length l.groups.entries - l.i
