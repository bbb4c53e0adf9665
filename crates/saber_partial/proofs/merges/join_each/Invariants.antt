use Rattle.std.proofs.Common.{◌≡◌, ◌++◌, length, take, drop}
use Rattle.saber_partial.specs.Sorted.{joined_each}
use Rattle.saber_partial.proofs.merges.join_each.Given as goal

abbrev pub invariant-loop-i : goal.invariant-loop-i
invariant-loop-i l = record {
  layout : l.groups.layout ≡ l.fn.groups.layout;
  long : length l.groups.entries ≡ length l.fn.groups.entries;
  left : drop l.i l.groups.entries ≡ drop l.i l.fn.groups.entries;
  done : take l.i l.groups.entries ++ joined_each (drop l.i l.fn.groups.entries) (drop l.i l.others.entries) ≡ joined_each l.fn.groups.entries l.others.entries;
}
