use Rattle.std.proofs.Common.{drop}
use Rattle.saber_plan.specs.Values.{column_of}
use Rattle.saber_eval.specs.Widths.{widths}
use Rattle.saber_eval.proofs.Sums.{Summed}
use Rattle.saber_eval.proofs.values.sum_all.Given as goal

abbrev pub invariant-loop-p : goal.invariant-loop-p
invariant-loop-p l = Summed (column_of l.left l.right) (widths l.left l.right) l.products l.so_far (drop l.p-index l.products)
