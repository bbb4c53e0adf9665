use Rattle.std.proofs.Common.{◌++◌, ◌∷◌, [], ap, get_or, rules, sym, take, ◌∙◌, to_z-of_z}
use Rattle.std.proofs.lemmas.List.{flat_map_more, map_more}
use mir.Val.{SFits}
use mir.Syntax.{w128}
use Rattle.std.specs.Fmt.{signed_decimal}
use Rattle.saber_plan.specs.Checked.{ExprFits}
use Rattle.saber_plan.specs.Values.{value}
use Rattle.saber_plan.specs.Answers.{items_over}
use Rattle.saber_plan.specs.Facts.Lists.{all_at}
use Rattle.saber_digits.specs.Cells.{cells}
use Rattle.saber_eval.specs.Widths.{widths}
use Rattle.saber_select.proofs.lines.write_cells.Goals as goal

pub value-requires : goal.value-requires
value-requires c = all_at (ExprFits (widths c.args.row.now.values [])) c.args.items.now c.loop-item.item-index c.item-item.result c.loop-item-test.true c.item-item.is c.requires

pub loop-item-preserved : goal.loop-item-preserved
loop-item-preserved c =
    let zs = c.args.row.now.values in
    let is = c.args.items.now in
    let k = c.loop-item.item-index in
    let x = c.item-item.result in
    let old = c.args.out.now.items in
    let fits : SFits w128 c.value.result = search rules in
    let number = to_z-of_z fits ∙ c.value.ensures.value ∙ ap (λ e. value e zs []) c.item-item.is in
    c.in_ok-write_cell.ensures.ok ∙ (λ j. c.loop-item.invariant j ++ 44 ∷ signed_decimal (number j))
    ∙ flat_map_more (λ z. 44 ∷ signed_decimal z) old (items_over (take k is) zs []) (value (get_or is k x) zs [])
    ∙ ap (λ l. old ++ cells l) (sym (map_more (λ e. value e zs []) is k x c.loop-item-test.true))
