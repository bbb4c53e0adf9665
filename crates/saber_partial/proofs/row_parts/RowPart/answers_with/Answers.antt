use Rattle.std.proofs.Common.{◌++◌, ◌∷◌, [], ◌∙◌, ap₂, sym, subst, subst₂}
use Rattle.std.specs.List.{AllByRecursion}
use Rattle.saber_plan.specs.Answers.{items_over}
use Rattle.saber_plan.specs.Parts.{merge, part_answers}
use Rattle.saber_plan.specs.Trees.{tree_of}
use Rattle.saber_partial.specs.Ones.{IsOne}
use Rattle.saber_partial.specs.Printing.{joined_row, IsLone}
use Rattle.saber_partial.specs.Tallies.{CanMerge}
use Rattle.saber_partial.proofs.Fitting.{items_are_lone}
use Rattle.saber_partial.proofs.OneRows.{answers_pair, can_join, later_row}
use Rattle.saber_partial.proofs.row_parts.RowPart.answers_with.Goals as goal

pub push_both-requires-clause-items : goal.push_both-requires-clause-items
push_both-requires-clause-items g c = subst (AllByRecursion IsLone) (sym c.items-items.ensures.is) (items_are_lone (tree_of c.args.plan.now) c.items-items.ensures.checked c.requires.group)

pub push_both-requires-clause-later : goal.push_both-requires-clause-later
push_both-requires-clause-later g c =
    let l = c.self.inside.layout.now in
    let m = c.later.inside.layout.now in
    let xs = c.self.inside.row.now in
    let ys = c.later.inside.row.now in
    let one = subst IsOne (sym c.self.view_is) c.requires.one in
    let other = subst IsOne (sym c.later.view_is) c.requires.other in
    let can = subst₂ CanMerge (sym c.self.view_is) (sym c.later.view_is) c.requires.can in
    later_row l m xs ys c.self.invariant.0 c.later.invariant.0 c.self.invariant.1 c.later.invariant.1 one other can

pub push_both-requires-clause-can : goal.push_both-requires-clause-can
push_both-requires-clause-can g c =
    let l = c.self.inside.layout.now in
    let m = c.later.inside.layout.now in
    let xs = c.self.inside.row.now in
    let ys = c.later.inside.row.now in
    let one = subst IsOne (sym c.self.view_is) c.requires.one in
    let other = subst IsOne (sym c.later.view_is) c.requires.other in
    let can = subst₂ CanMerge (sym c.self.view_is) (sym c.later.view_is) c.requires.can in
    can_join l m xs ys c.self.invariant.0 c.later.invariant.0 c.self.invariant.1 c.later.invariant.1 one other can

pub returns-clause-ok : goal.returns-clause-ok
returns-clause-ok g c =
    let l = c.self.inside.layout.now in
    let m = c.later.inside.layout.now in
    let xs = c.self.inside.row.now in
    let ys = c.later.inside.row.now in
    let one = subst IsOne (sym c.self.view_is) c.requires.one in
    let other = subst IsOne (sym c.later.view_is) c.requires.other in
    let can = subst₂ CanMerge (sym c.self.view_is) (sym c.later.view_is) c.requires.can in
    let q = tree_of c.args.plan.now in
    c.in_ok-push_both.ensures
    ∙ (λ i. c.in_ok-answers.ensures i ++ items_over (c.items-items.ensures.is i) (joined_row l xs ys) [] ∷ [])
    ∙ answers_pair l m xs ys c.self.invariant.0 c.later.invariant.0 c.self.invariant.1 c.later.invariant.1 one other can q c.requires.group ∙ ap₂ (λ a b. part_answers q (merge a b)) c.self.view_is c.later.view_is
