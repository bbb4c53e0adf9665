use Rattle.std.proofs.Common.{◌++◌, ◌∷◌, [], ◌∙◌, ap, append-nil, rules, sym, to_z-of_z}
use Rattle.std.proofs.lemmas.List.{drop_all}
use mir.Val.{SFits}
use mir.Syntax.{w128}
use Rattle.saber_plan.specs.Answers.{items_over}
use Rattle.saber_plan.specs.Facts.Lists.{all_at}
use Rattle.saber_partial.specs.Printing.{joined_row, IsLone}
use Rattle.saber_partial.proofs.Listed.{moved, next_asked}
use Rattle.saber_partial.proofs.joined_answers.put_both.Goals as goal

pub number_of_both-requires-clause-item : goal.number_of_both-requires-clause-item
number_of_both-requires-clause-item c =
    all_at IsLone c.args.items.now c.loop-item.item-index c.item-item.result c.loop-item-test.true c.item-item.is c.requires.items

pub loop-item-preserved : goal.loop-item-preserved
loop-item-preserved c =
    let fits : SFits w128 c.number_of_both.result = search rules in
    let z = c.number_of_both.result in
    let out = c.loop-item.line.items in
    let both = joined_row c.args.layout.now c.args.row.now c.args.later.now in
    let next = next_asked c.args.items.now c.loop-item.item-index c.item-item.result both z c.loop-item-test.true c.item-item.is c.number_of_both.ensures in
    moved out c.push.new.self.items _ _ z (c.in_ok-push.ensures.items ∙ ap (λ y. out ++ y ∷ []) (to_z-of_z fits)) next ∙ c.loop-item.invariant

pub returns : goal.returns
returns c =
    let line = c.loop-item.line.items in
    let none = drop_all c.loop-item.item-index c.args.items.now c.loop-item-test.false in
    sym (append-nil line)
    ∙ ap (λ is. line ++ items_over is (joined_row c.args.layout.now c.args.row.now c.args.later.now) []) (sym none)
    ∙ c.loop-item.invariant
