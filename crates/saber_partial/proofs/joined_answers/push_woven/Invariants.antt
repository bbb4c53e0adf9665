use Rattle.std.proofs.Common.{◌≡◌, ◌++◌, ◌≤◌, ◌+◌, ◌-◌, length, drop}
use Rattle.saber_partial.specs.Printing.{answers_under}
use Rattle.saber_partial.specs.Sorted.{weave}
use Rattle.saber_partial.proofs.joined_answers.push_woven.Given as goal

abbrev pub invariant-loop-i : goal.invariant-loop-i
invariant-loop-i l = record {
  mine : l.i ≤ length l.groups.entries;
  theirs : l.j ≤ length l.others.entries;
  all : l.answers ++ answers_under l.items (weave (drop l.i l.groups.entries) (drop l.j l.others.entries)) ≡ l.fn.answers ++ answers_under l.items (weave l.groups.entries l.others.entries);
}

abbrev pub decreases-loop-i : goal.decreases-loop-i
decreases-loop-i l = (length l.groups.entries - l.i) + (length l.others.entries - l.j)
