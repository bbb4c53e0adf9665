use Rattle.std.proofs.Common.{◌≡◌, [], take}
use Rattle.saber_plan.specs.Answers.{items_over}
use Rattle.saber_select.proofs.windowed.put_values.Given as goal

abbrev pub invariant-loop-item : goal.invariant-loop-item
invariant-loop-item l = l.values.items ≡ items_over (take l.item-index l.items) l.row.values []
