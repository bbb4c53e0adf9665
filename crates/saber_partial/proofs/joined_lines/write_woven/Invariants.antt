use Rattle.std.proofs.Common.{◌≡◌, ◌++◌, ◌≤◌, ◌+◌, ◌-◌, length, drop}
use Rattle.saber_plan.specs.Texts.{Behind}
use Rattle.saber_digits.specs.Cells.{drafted_text}
use Rattle.saber_partial.specs.Printing.{lines_for}
use Rattle.saber_partial.specs.Sorted.{weave}
use Rattle.saber_partial.proofs.joined_lines.write_woven.Given as goal

abbrev pub invariant-loop-i : goal.invariant-loop-i
invariant-loop-i l = record {
  mine : l.i ≤ length l.groups.entries;
  theirs : l.j ≤ length l.others.entries;
  all : drafted_text l.out.items l.draft l.at ++ lines_for l.heading.window l.items (weave (drop l.i l.groups.entries) (drop l.j l.others.entries))
      ≡ drafted_text l.fn.out.items l.fn.draft 0 ++ lines_for l.heading.window l.items (weave l.groups.entries l.others.entries);
  room : l.at ≤ 128;
  behind : Behind l.fn.out.items l.out.items;
}

abbrev pub decreases-loop-i : goal.decreases-loop-i
decreases-loop-i l = (length l.groups.entries - l.i) + (length l.others.entries - l.j)
