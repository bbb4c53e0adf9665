use Rattle.std.proofs.Common.{[], ◌∷◌, sym, ◌∙◌, ap, subst}
use Rattle.saber_plan.specs.Trees.{tree_of}
use Rattle.saber_plan.specs.Parts.{Part, group_part, merge}
use Rattle.saber_plan.specs.Facts.Parts.{merge-empty_left}
use Rattle.saber_partial.specs.MergeFacts.{none_can}
use Rattle.saber_partial.specs.Tallies.{CanMerge}
use Rattle.saber_partial.proofs.groups.Partial.of_row.Goals as goal

pub add_by-requires-clause-room : goal.add_by-requires-clause-room
add_by-requires-clause-room c =
    let one = group_part (tree_of c.args.aggregates.now) (c.args.row.now.values ∷ []) in
    subst (λ (p : Part). CanMerge p one) (sym c.empty-part.ensures) (none_can one)

pub returns : goal.returns
returns c =
    let one = group_part (tree_of c.args.aggregates.now) (c.args.row.now.values ∷ []) in
    c.in_ok-add_by.ensures.ok ∙ ap (λ (p : Part). merge p one) c.empty-part.ensures ∙ merge-empty_left one
