use Rattle.std.proofs.Common.{◌++◌, ◌∙◌, ap, sym, subst, List}
use Rattle.std.specs.List.{AllByRecursion}
use Rattle.saber_plan.specs.declared.expressions.Product.{Product}
use Rattle.saber_plan.specs.Trees.{tree_of}
use Rattle.saber_plan.specs.Parts.{part_lines}
use Rattle.saber_partial.specs.Printing.{lines_for, IsLone}
use Rattle.saber_partial.proofs.Fitting.{items_are_lone}
use Rattle.saber_partial.proofs.Lined.{part_lined}
use Rattle.saber_partial.proofs.groups.Partial.lines.Goals as goal

pub write_all-requires : goal.write_all-requires
write_all-requires c = subst (AllByRecursion IsLone) (sym c.items.ensures.is) (items_are_lone (tree_of c.args.plan.now) c.items.ensures.checked c.requires.group)

pub returns-in-Ok-clause-ok : goal.returns-in-Ok-clause-ok
returns-in-Ok-clause-ok c =
    let out = c.args.out.now.items in
    let es = c.self.inside.groups.entries in
    let q = tree_of c.args.plan.now in
    let w = c.args.window in
    c.in-Ok.ensures.ok
    ∙ ap (λ (is : List (List Product)). out ++ lines_for w is es) c.items.ensures.is
    ∙ ap (λ l. out ++ l) (part_lined q w es c.requires.group c.self.invariant ∙ ap (part_lines q w) c.self.view_is)
