use Rattle.std.proofs.Common.{rules, to_z-of_z, ◌∙◌, ap}
use mir.Val.{SFits}
use mir.Syntax.{w64, w128}
use Rattle.saber_plan.specs.Values.{column_of, value_at, compares}
use Rattle.saber_eval.proofs.predicates.singles_compared.Goals as goal

pub returns-in-Some-single : goal.returns-in-Some-single
returns-in-Some-single c =
    let at = column_of c.args.left.now c.args.right.now in
    let fits : SFits w64 c.in-Some.first = search rules in
    let fits_second : SFits w64 c.in-Some-single.second = search rules in
    let wide : SFits w128 c.from.result = search rules in
    let wide_second : SFits w128 c.from-in-Some-single.result = search rules in
    let first = simp to_z-of_z at c.from.ensures in
    let second = simp to_z-of_z at c.from-in-Some-single.ensures in
    let x = first ∙ c.in-Some.ensures.value ∙ ap (value_at at) c.as_slice.ensures in
    let y = second ∙ c.in-Some-single.ensures.value ∙ ap (value_at at) c.as_slice-in-Some.ensures in
    let z = simp to_z-of_z at c.compares.ensures in
    z ∙ (λ i. compares c.args.cmp (x i) (y i))
