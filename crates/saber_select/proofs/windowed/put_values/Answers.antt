use Rattle.std.proofs.Common.{◌++◌, ◌∷◌, [], ap, rules, sym, ◌∙◌, to_z-of_z}
use Rattle.std.proofs.lemmas.List.{map_more}
use mir.Val.{SFits}
use mir.Syntax.{w128}
use Rattle.saber_plan.specs.Checked.{ExprFits}
use Rattle.saber_plan.specs.Values.{value}
use Rattle.saber_plan.specs.Facts.Lists.{all_at}
use Rattle.saber_eval.specs.Widths.{widths}
use Rattle.saber_select.proofs.windowed.put_values.Goals as goal

pub value-requires : goal.value-requires
value-requires c = all_at (ExprFits (widths c.args.row.now.values [])) c.args.items.now c.loop-item.item-index c.item-item.result c.loop-item-test.true c.item-item.is c.requires

pub loop-item-preserved : goal.loop-item-preserved
loop-item-preserved c =
    let zs = c.args.row.now.values in
    let fits : SFits w128 c.value.result = search rules in
    let is = to_z-of_z fits ∙ c.value.ensures.value ∙ ap (λ e. value e zs []) c.item-item.is in
    c.in_ok-push.ensures.items ∙ (λ j. c.loop-item.invariant j ++ is j ∷ [])
    ∙ sym (map_more (λ e. value e zs []) c.args.items.now c.loop-item.item-index c.item-item.result c.loop-item-test.true)
