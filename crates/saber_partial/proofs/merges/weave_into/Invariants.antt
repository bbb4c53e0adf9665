use Rattle.std.proofs.Common.{◌≡◌, ◌++◌, ◌≤◌, ◌+◌, ◌-◌, length, drop}
use Rattle.saber_partial.specs.Sorted.{weave}
use Rattle.saber_partial.proofs.merges.weave_into.Given as goal

abbrev pub invariant-loop-i : goal.invariant-loop-i
invariant-loop-i l = record {
  mine : l.i ≤ length l.groups.entries;
  start : l.from ≤ l.j;
  theirs : l.j ≤ length l.others.entries;
  layout : l.out.layout ≡ l.fn.out.layout;
  all : l.out.entries ++ weave (drop l.i l.groups.entries) (drop l.j l.others.entries) ≡ l.fn.out.entries ++ weave l.groups.entries (drop l.from l.others.entries);
}

abbrev pub decreases-loop-i : goal.decreases-loop-i
decreases-loop-i l = (length l.groups.entries - l.i) + (length l.others.entries - l.j)
