use Rattle.std.proofs.Common.{◌≡◌, ◌++◌, [], take}
use Rattle.saber_plan.specs.Answers.{items_over}
use Rattle.saber_digits.specs.Cells.{cells}
use Rattle.saber_select.proofs.lines.write_cells.Given as goal

abbrev pub invariant-loop-item : goal.invariant-loop-item
invariant-loop-item l = l.out.items ≡ l.fn.out.items ++ cells (items_over (take l.item-index l.items) l.row.values [])
