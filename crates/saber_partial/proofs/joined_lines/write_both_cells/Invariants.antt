use Rattle.std.proofs.Common.{◌≡◌, ◌≤◌, ◌++◌, [], drop}
use Rattle.saber_plan.specs.Answers.{items_over}
use Rattle.saber_plan.specs.Texts.{Behind}
use Rattle.saber_digits.specs.Cells.{cells, drafted_text}
use Rattle.saber_partial.specs.Printing.{joined_row}
use Rattle.saber_partial.proofs.joined_lines.write_both_cells.Given as goal

abbrev pub invariant-loop-item : goal.invariant-loop-item
invariant-loop-item l = record {
  all : drafted_text l.out.items l.draft l.at ++ cells (items_over (drop l.item-index l.items) (joined_row l.layout l.row l.later) [])
      ≡ drafted_text l.fn.out.items l.fn.draft l.start ++ cells (items_over l.items (joined_row l.layout l.row l.later) []);
  room : l.at ≤ 121;
  behind : Behind l.fn.out.items l.out.items;
}
