use Rattle.saber_plan.specs.Values.{column_of}
use Rattle.saber_eval.specs.Widths.{widths}
use Rattle.saber_eval.proofs.Sums.{summed_first}
use Rattle.saber_eval.proofs.values.sum_all.Goals as goal

pub loop-p-init : goal.loop-p-init
loop-p-init c = summed_first (column_of c.args.left.now c.args.right.now) (widths c.args.left.now c.args.right.now) c.args.products.now c.requires
