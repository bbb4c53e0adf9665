use Rattle.std.proofs.Common.{◌++◌, ◌∷◌, [], ◌∙◌, ap, ap₂, sym, subst, subst₂, List, pos}
use Rattle.std.specs.List.{AllByRecursion}
use Rattle.saber_plan.specs.declared.expressions.Product.{Product}
use Rattle.saber_plan.specs.Answers.{items_over, line}
use Rattle.saber_plan.specs.Parts.{merge, part_lines}
use Rattle.saber_plan.specs.Trees.{tree_of}
use Rattle.saber_partial.specs.Ones.{IsOne}
use Rattle.saber_partial.specs.Printing.{joined_row, IsLone}
use Rattle.saber_partial.specs.Tallies.{CanMerge}
use Rattle.saber_partial.proofs.Fitting.{items_are_lone}
use Rattle.saber_partial.proofs.OneRows.{can_join, later_row, lines_pair}
use Rattle.saber_partial.proofs.row_parts.RowPart.lines_with.Goals as goal

pub write_pair-requires-clause-items : goal.write_pair-requires-clause-items
write_pair-requires-clause-items g c = subst (AllByRecursion IsLone) (sym c.items.ensures.is) (items_are_lone (tree_of c.args.plan.now) c.items.ensures.checked c.requires.group)

pub write_pair-requires-clause-later : goal.write_pair-requires-clause-later
write_pair-requires-clause-later g c =
    let l = c.self.inside.layout.now in
    let m = c.later.inside.layout.now in
    let xs = c.self.inside.row.now in
    let ys = c.later.inside.row.now in
    let one = subst IsOne (sym c.self.view_is) c.requires.one in
    let other = subst IsOne (sym c.later.view_is) c.requires.other in
    let can = subst₂ CanMerge (sym c.self.view_is) (sym c.later.view_is) c.requires.can in
    later_row l m xs ys c.self.invariant.0 c.later.invariant.0 c.self.invariant.1 c.later.invariant.1 one other can

pub write_pair-requires-clause-can : goal.write_pair-requires-clause-can
write_pair-requires-clause-can g c =
    let l = c.self.inside.layout.now in
    let m = c.later.inside.layout.now in
    let xs = c.self.inside.row.now in
    let ys = c.later.inside.row.now in
    let one = subst IsOne (sym c.self.view_is) c.requires.one in
    let other = subst IsOne (sym c.later.view_is) c.requires.other in
    let can = subst₂ CanMerge (sym c.self.view_is) (sym c.later.view_is) c.requires.can in
    can_join l m xs ys c.self.invariant.0 c.later.invariant.0 c.self.invariant.1 c.later.invariant.1 one other can

pub returns-in-Ok-clause-ok : goal.returns-in-Ok-clause-ok
returns-in-Ok-clause-ok g c =
    let l = c.self.inside.layout.now in
    let m = c.later.inside.layout.now in
    let xs = c.self.inside.row.now in
    let ys = c.later.inside.row.now in
    let one = subst IsOne (sym c.self.view_is) c.requires.one in
    let other = subst IsOne (sym c.later.view_is) c.requires.other in
    let can = subst₂ CanMerge (sym c.self.view_is) (sym c.later.view_is) c.requires.can in
    let out = c.args.out.now.items in
    let q = tree_of c.args.plan.now in
    let w = c.args.window in
    c.in-Ok.ensures.ok
    ∙ ap (λ (is : List (List Product)). out ++ line (pos w ∷ items_over is (joined_row l xs ys) [])) c.items.ensures.is
    ∙ ap (λ t. out ++ t) (lines_pair l m xs ys c.self.invariant.0 c.later.invariant.0 c.self.invariant.1 c.later.invariant.1 one other can q w c.requires.group ∙ ap₂ (λ a b. part_lines q w (merge a b)) c.self.view_is c.later.view_is)
