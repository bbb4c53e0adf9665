use Rattle.std.proofs.Common.{◌≡◌, ◌++◌, [], drop}
use Rattle.saber_plan.specs.Answers.{items_over}
use Rattle.saber_partial.proofs.answers.put_numbers.Given as goal

abbrev pub invariant-loop-item : goal.invariant-loop-item
invariant-loop-item l = l.line.items ++ items_over (drop l.item-index l.items) l.row [] ≡ items_over l.items l.row []
