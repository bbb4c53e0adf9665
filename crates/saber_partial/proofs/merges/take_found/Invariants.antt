use Rattle.std.proofs.Common.{◌≡◌, ◌≤◌, length, drop}
use Rattle.saber_plan.specs.Parts.{merge}
use Rattle.saber_partial.specs.Sorted.{part_of, JoinsFit, Rises}
use Rattle.saber_partial.proofs.merges.take_found.Given as goal

abbrev pub invariant-loop-j : goal.invariant-loop-j
invariant-loop-j l = record {
  within : l.i ≤ length l.groups.entries;
  layout : l.groups.layout ≡ l.fn.groups.layout;
  mine : Rises l.groups.entries;
  theirs : Rises (drop l.j l.others.entries);
  can : JoinsFit (part_of l.groups.entries) (part_of (drop l.j l.others.entries));
  all : merge (part_of l.groups.entries) (part_of (drop l.j l.others.entries)) ≡ merge (part_of l.fn.groups.entries) (part_of l.others.entries);
}
