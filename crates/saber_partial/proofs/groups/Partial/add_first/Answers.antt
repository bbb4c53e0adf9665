use Rattle.std.proofs.Common.{[], ◌∷◌, sym, ◌∙◌, ap}
use Rattle.std.specs.List.{insert}
use Rattle.saber_plan.specs.Trees.{tree_of}
use Rattle.saber_plan.specs.Parts.{Part, numbers}
use Rattle.saber_partial.specs.Tallies.{with_row}
use Rattle.saber_partial.specs.Sorted.{part_of}
use Rattle.saber_partial.proofs.Layouts.{first_part}
use Rattle.saber_partial.proofs.groups.Partial.add_first.Goals as goal

pub returns-clause-ok : goal.returns-clause-ok
returns-clause-ok c =
    let v = numbers (tree_of c.args.aggregates.now).aggregates (c.args.row.now.values ∷ []) in
    ap part_of (c.in_ok-insert_first.ensures.ok ∙ ap (λ es. insert es 0 (c.args.key.now, v)) c.new-groups.ensures.none)
    ∙ first_part c.args.key.now v
    ∙ ap (λ (m : Part). with_row m c.args.key.now v) (sym c.requires.none)
