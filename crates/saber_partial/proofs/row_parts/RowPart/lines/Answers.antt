use Rattle.std.proofs.Common.{◌++◌, ◌∷◌, [], ◌∙◌, ap, sym, subst, List, pos}
use Rattle.std.specs.List.{AllByRecursion}
use Rattle.saber_plan.specs.declared.expressions.Product.{Product}
use Rattle.saber_plan.specs.Answers.{items_over, line}
use Rattle.saber_plan.specs.Parts.{part_lines}
use Rattle.saber_plan.specs.Trees.{tree_of}
use Rattle.saber_partial.specs.Printing.{IsLone}
use Rattle.saber_partial.proofs.Fitting.{items_are_lone}
use Rattle.saber_partial.proofs.OneRows.{lines_alone}
use Rattle.saber_partial.proofs.row_parts.RowPart.lines.Goals as goal

pub write_alone-requires : goal.write_alone-requires
write_alone-requires c = record { items = subst (AllByRecursion IsLone) (sym c.items.ensures.is) (items_are_lone (tree_of c.args.plan.now) c.items.ensures.checked c.requires.group) }

pub returns-in-Ok-clause-ok : goal.returns-in-Ok-clause-ok
returns-in-Ok-clause-ok c =
    let out = c.args.out.now.items in
    let r = c.self.inside.row.now in
    let q = tree_of c.args.plan.now in
    let w = c.args.window in
    c.in-Ok.ensures.ok
    ∙ ap (λ (is : List (List Product)). out ++ line (pos w ∷ items_over is r [])) c.items.ensures.is
    ∙ ap (λ l. out ++ l) (lines_alone q c.self.inside.layout.now r c.requires.group c.self.invariant.0 c.self.invariant.1 w ∙ ap (part_lines q w) c.self.view_is)
