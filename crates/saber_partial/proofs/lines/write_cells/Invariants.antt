use Rattle.std.proofs.Common.{◌≡◌, ◌≤◌, ◌++◌, [], drop}
use Rattle.saber_plan.specs.Answers.{items_over}
use Rattle.saber_plan.specs.Texts.{Behind}
use Rattle.saber_digits.specs.Cells.{cells, drafted_text}
use Rattle.saber_partial.proofs.lines.write_cells.Given as goal

abbrev pub invariant-loop-item : goal.invariant-loop-item
invariant-loop-item l = record {
  all : drafted_text l.out.items l.draft l.at ++ cells (items_over (drop l.item-index l.items) l.row [])
      ≡ drafted_text l.fn.out.items l.fn.draft l.start ++ cells (items_over l.items l.row []);
  room : l.at ≤ 121;
  behind : Behind l.fn.out.items l.out.items;
}
