use Rattle.std.proofs.Common.{◌++◌, ◌∷◌, [], ◌∙◌, ap, sym, subst}
use Rattle.std.specs.List.{AllByRecursion}
use Rattle.saber_plan.specs.Answers.{items_over}
use Rattle.saber_plan.specs.Parts.{part_answers}
use Rattle.saber_plan.specs.Trees.{tree_of}
use Rattle.saber_partial.specs.Printing.{IsLone}
use Rattle.saber_partial.proofs.Fitting.{items_are_lone}
use Rattle.saber_partial.proofs.OneRows.{answers_alone}
use Rattle.saber_partial.proofs.row_parts.RowPart.answers.Goals as goal

pub push_group-requires : goal.push_group-requires
push_group-requires c = subst (AllByRecursion IsLone) (sym c.items-items.ensures.is) (items_are_lone (tree_of c.args.plan.now) c.items-items.ensures.checked c.requires.group)

pub returns : goal.returns
returns c =
    let r = c.self.inside.row.now in
    let q = tree_of c.args.plan.now in
    c.in_ok-push_group.ensures
    ∙ (λ i. c.in_ok-answers.ensures i ++ items_over (c.items-items.ensures.is i) r [] ∷ [])
    ∙ answers_alone q c.self.inside.layout.now r c.requires.group c.self.invariant.0 c.self.invariant.1 ∙ ap (part_answers q) c.self.view_is
