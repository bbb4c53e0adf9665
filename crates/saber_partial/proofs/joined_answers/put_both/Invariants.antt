use Rattle.std.proofs.Common.{◌≡◌, ◌++◌, [], drop}
use Rattle.saber_plan.specs.Answers.{items_over}
use Rattle.saber_partial.specs.Printing.{joined_row}
use Rattle.saber_partial.proofs.joined_answers.put_both.Given as goal

abbrev pub invariant-loop-item : goal.invariant-loop-item
invariant-loop-item l =
    l.line.items ++ items_over (drop l.item-index l.items) (joined_row l.layout l.row l.later) [] ≡ items_over l.items (joined_row l.layout l.row l.later) []
