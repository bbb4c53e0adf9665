use Rattle.std.proofs.Common.{◌∙◌, ap, sym, rules, to_z-of_z, length, get_or, List}
use mir.Val.{SFits}
use mir.Syntax.{w64}
use Rattle.saber_plan.specs.declared.expressions.Factor.{Factor}
use Rattle.saber_plan.specs.Values.{column_of, factor_value}
use Rattle.saber_eval.proofs.Sums.{value_alone}
use Rattle.saber_eval.proofs.values.single.Goals as goal

pub returns-clause-value : goal.returns-clause-value
returns-clause-value c =
    let at = column_of c.args.left.now c.args.right.now in
    let ps = c.args.products.now in
    let fits : SFits w64 c.factor.result = search rules in
    let fs = c.as_slice-factors.ensures in
    let all = c.factor.ensures.value ∙ ap (λ (l : List Factor). factor_value at (get_or l 0 _)) fs
    ∙ value_alone at ps c.index-products-0.result c.index-products-0-2.result _ c.if-products-ne1.false c.if-products-offset0.false (sym (ap length fs) ∙ c.if-factors-ne1.false) in
    simp to_z-of_z all
