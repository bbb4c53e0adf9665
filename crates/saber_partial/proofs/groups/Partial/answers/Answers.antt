use Rattle.std.proofs.Common.{◌≡◌, ◌∙◌, ap, sym, subst, IfOk, List}
use Rattle.std.specs.List.{AllByRecursion}
use Rattle.saber_plan.specs.declared.expressions.Product.{Product}
use Rattle.saber_plan.specs.Trees.{tree_of}
use Rattle.saber_plan.specs.Answers as a
use Rattle.saber_plan.specs.Parts.{part_answers}
use Rattle.saber_partial.specs.Printing.{answers_under, IsLone}
use Rattle.saber_partial.proofs.Fitting.{items_are_lone}
use Rattle.saber_partial.proofs.Listed.{part_listed}
use Rattle.saber_partial.proofs.groups.Partial.answers.Goals as goal

pub answers_in-requires : goal.answers_in-requires
answers_in-requires c = subst (AllByRecursion IsLone) (sym c.items.ensures.is) (items_are_lone (tree_of c.args.plan.now) c.items.ensures.checked c.requires.group)

pub returns : goal.returns
returns c =
    let es = c.self.inside.groups.entries in
    let q = tree_of c.args.plan.now in
    let all = ap (λ (is : List (List Product)). answers_under is es) c.items.ensures.is
    ∙ part_listed q es c.requires.group c.self.invariant ∙ ap (part_answers q) c.self.view_is in
    subst (λ (l : a.Answers). IfOk c.answers_in.result (λ a. a ≡ l)) all c.answers_in.ensures
