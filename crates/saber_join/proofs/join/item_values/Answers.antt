use Rattle.std.proofs.Common.{List, ◌++◌, ◌∷◌, [], ℤ, ap, rules, sym, ◌∙◌, to_z-of_z}
use Rattle.std.proofs.lemmas.List.{map_more}
use mir.Val.{SFits}
use mir.Syntax.{w128}
use Rattle.saber_plan.specs.Checked.{ExprFits}
use Rattle.saber_plan.specs.Values.{value}
use Rattle.saber_plan.specs.Facts.Lists.{all_at}
use Rattle.saber_eval.specs.Widths.{widths}
use Rattle.saber_join.proofs.join.item_values.Goals as goal

pub value2-requires : goal.value2-requires
value2-requires c =
    all_at (ExprFits (widths c.args.left.now.values c.args.right.now.values)) c.args.items.now c.loop-item.item-index c.item-item.result c.loop-item-test.true c.item-item.is c.requires

pub loop-item-preserved : goal.loop-item-preserved
loop-item-preserved c =
    let ls = c.args.left.now.values in
    let rs = c.args.right.now.values in
    let fits : SFits w128 c.value2.result = search rules in
    let is = to_z-of_z fits ∙ c.value2.ensures.value ∙ ap (λ e. value e ls rs) c.item-item.is in
    ◌∙◌ {A = List ℤ} c.in_ok-push.ensures.items
    ((λ j. c.loop-item.invariant j ++ is j ∷ []) ∙ sym (map_more (λ e. value e ls rs) c.args.items.now c.loop-item.item-index c.item-item.result c.loop-item-test.true))
