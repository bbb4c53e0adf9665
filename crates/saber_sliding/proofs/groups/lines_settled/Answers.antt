use Rattle.std.proofs.Common.{◌≡◌, ◌++◌, ◌≤◌, length, OnOk, subst, ◌∙◌, ap}
use Rattle.saber_plan.specs.Parts.{part_lines}
use Rattle.saber_plan.specs.Trees.{tree_of}
use Rattle.saber_sliding.specs.Entries.{whole}
use Rattle.saber_sliding.proofs.Entered.{whole_alone}
use Rattle.saber_sliding.proofs.groups.lines_settled.Goals as goal

pub returns-in-None-clause-ok : goal.returns-in-None-clause-ok
returns-in-None-clause-ok g c =
    let s = c.settle.new in
    let none : length s.front.items ≤ 0 = c.in-None.ensures.item.3 in
    let all = whole_alone s.front.items s.back.items s.back_part.part c.in_ok-settle.ensures.sound none ∙ ap whole c.in_ok-settle.ensures.entries in
    subst (λ m. OnOk c.lines.result (c.lines.new.out.items ≡ c.args.out.now.items ++ part_lines (tree_of c.args.plan.now) c.args.window m)) all c.lines.ensures.ok
