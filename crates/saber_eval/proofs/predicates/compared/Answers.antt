use Rattle.std.proofs.Common.{rules, to_z-of_z, ◌∙◌, ap}
use mir.Val.{SFits}
use mir.Syntax.{w128}
use Rattle.saber_plan.specs.Values.{column_of, value_at, compares}
use Rattle.saber_eval.proofs.predicates.compared.Goals as goal

pub returns : goal.returns
returns c =
    let first : SFits w128 c.sum_all.result = search rules in
    let second : SFits w128 c.sum_all-2.result = search rules in
    let x = c.sum_all.ensures.value ∙ ap (value_at (column_of c.args.left.now c.args.right.now)) c.as_slice.ensures in
    let y = c.sum_all-2.ensures.value ∙ ap (value_at (column_of c.args.left.now c.args.right.now)) c.as_slice-2.ensures in
    let z = simp to_z-of_z at c.compares.ensures in
    z ∙ (λ i. compares c.args.cmp (x i) (y i))
