use Rattle.std.proofs.Common.{drop}
use Rattle.saber_plan.specs.Values.{column_of}
use Rattle.saber_eval.specs.Widths.{widths}
use Rattle.saber_eval.proofs.Products.{Kept}
use Rattle.saber_eval.proofs.values.product.Given as goal

abbrev pub invariant-loop-f : goal.invariant-loop-f
invariant-loop-f l = Kept (column_of l.left l.right) (widths l.left l.right) l.factors l.so_far (drop l.f-index l.factors)
