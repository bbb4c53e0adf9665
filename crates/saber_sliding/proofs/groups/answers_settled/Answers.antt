use Rattle.std.proofs.Common.{◌≡◌, ◌≤◌, length, IfOk, subst, ◌∙◌, ap}
use Rattle.saber_plan.specs.Parts.{part_answers}
use Rattle.saber_plan.specs.Trees.{tree_of}
use Rattle.saber_sliding.specs.Entries.{whole}
use Rattle.saber_sliding.proofs.Entered.{whole_alone}
use Rattle.saber_sliding.proofs.groups.answers_settled.Goals as goal

pub returns-in-None-clause-ok : goal.returns-in-None-clause-ok
returns-in-None-clause-ok g c =
    let s = c.settle.new in
    let none : length s.front.items ≤ 0 = c.in-None.ensures.item.3 in
    let all = whole_alone s.front.items s.back.items s.back_part.part c.in_ok-settle.ensures.sound none ∙ ap whole c.in_ok-settle.ensures.entries in
    subst (λ m. IfOk c.answers.result (λ a. a ≡ part_answers (tree_of c.args.plan.now) m)) all c.answers.ensures.ok
