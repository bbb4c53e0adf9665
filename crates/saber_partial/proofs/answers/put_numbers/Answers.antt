use Rattle.std.proofs.Common.{◌++◌, ◌∷◌, [], ◌∙◌, ap, append-nil, rules, sym, to_z-of_z}
use Rattle.std.proofs.lemmas.List.{drop_all}
use mir.Val.{SFits}
use mir.Syntax.{w128}
use Rattle.saber_plan.specs.Answers.{items_over}
use Rattle.saber_plan.specs.Facts.Lists.{all_at}
use Rattle.saber_partial.specs.Printing.{IsLone}
use Rattle.saber_partial.proofs.Listed.{moved, next_asked}
use Rattle.saber_partial.proofs.answers.put_numbers.Goals as goal

pub number-requires : goal.number-requires
number-requires c = all_at IsLone c.args.items.now c.loop-item.item-index c.item-item.result c.loop-item-test.true c.item-item.is c.requires.items

pub loop-item-preserved : goal.loop-item-preserved
loop-item-preserved c =
    let fits : SFits w128 c.number.result = search rules in
    let z = c.number.result in
    let out = c.loop-item.line.items in
    let next = next_asked c.args.items.now c.loop-item.item-index c.item-item.result c.args.row.now z c.loop-item-test.true c.item-item.is c.number.ensures in
    moved out c.push.new.self.items _ _ z (c.in_ok-push.ensures.items ∙ ap (λ y. out ++ y ∷ []) (to_z-of_z fits)) next ∙ c.loop-item.invariant

pub returns : goal.returns
returns c =
    let line = c.loop-item.line.items in
    sym (append-nil line)
    ∙ ap (λ is. line ++ items_over is c.args.row.now []) (sym (drop_all c.loop-item.item-index c.args.items.now c.loop-item-test.false))
    ∙ c.loop-item.invariant
