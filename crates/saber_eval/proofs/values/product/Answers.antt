use Rattle.std.proofs.Common.{rules, nat_abs, to_z-of_z}
use mir.Val.{to_z, SFits}
use mir.Syntax.{w64, w128}
use Rattle.saber_plan.specs.Values.{column_of}
use Rattle.saber_eval.specs.Widths.{widths}
use Rattle.saber_eval.proofs.Products.{kept_more, two_bound}
use Rattle.saber_eval.proofs.values.product.Goals as goal

pub returns-then-factors-eq2-clause-bound : goal.returns-then-factors-eq2-clause-bound
returns-then-factors-eq2-clause-bound c =
    let fits : SFits w128 c.both.result = search rules in
    let fits_first : SFits w64 c.factor-then-factors-eq2.result = search rules in
    let fits_second : SFits w64 c.factor-then-factors-eq2-2.result = search rules in
    let bound = simp to_z-of_z at c.both.ensures.bound in
    simp to_z-of_z (two_bound c.args.factors.now _ _ (nat_abs c.factor-then-factors-eq2.result) (nat_abs c.factor-then-factors-eq2-2.result) (nat_abs c.both.result)
    c.if-factors-eq2.true c.factor-then-factors-eq2.ensures.bound c.factor-then-factors-eq2-2.ensures.bound bound)

pub loop-f-preserved : goal.loop-f-preserved
loop-f-preserved c =
    let fits_product : SFits w128 c.times-so_far.result = search rules in
    let fits_factor : SFits w64 c.factor-in-loop-f.result = search rules in
    let value = simp to_z-of_z at c.times-so_far.ensures.value in
    let bound = simp to_z-of_z at c.times-so_far.ensures.bound in
    simp to_z-of_z (kept_more (column_of c.args.left.now c.args.right.now) (widths c.args.left.now c.args.right.now) c.args.factors.now c.loop-f.f-index _ (to_z w128 c.loop-f.so_far-bits) c.factor-in-loop-f.result c.times-so_far.result
    c.loop-f-test.true c.factor-in-loop-f.ensures.value value bound c.factor-in-loop-f.ensures.bound c.loop-f.invariant)
