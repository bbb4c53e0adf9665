use Rattle.std.proofs.Common.{◌≡◌, ◌≤◌, ◌++◌, drop}
use Rattle.saber_plan.specs.Texts.{Behind}
use Rattle.saber_digits.specs.Cells.{drafted_text}
use Rattle.saber_partial.specs.Printing.{lines_for}
use Rattle.saber_partial.proofs.lines.write_groups.Given as goal

abbrev pub invariant-loop-i : goal.invariant-loop-i
invariant-loop-i l = record {
  all : drafted_text l.out.items l.draft l.at ++ lines_for l.heading.window l.items (drop l.i l.groups.entries)
      ≡ drafted_text l.fn.out.items l.fn.draft l.start ++ lines_for l.heading.window l.items (drop l.from l.groups.entries);
  room : l.at ≤ 128;
  behind : Behind l.fn.out.items l.out.items;
}
