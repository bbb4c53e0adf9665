use Rattle.std.proofs.Common.{sym, subst, ◌∙◌, ap₂}
use Rattle.saber_plan.specs.Parts.{Part, merge, no_part}
use Rattle.saber_plan.specs.Facts.Parts.{merge-empty_left}
use Rattle.saber_partial.specs.Tallies.{CanMerge}
use Rattle.saber_partial.specs.MergeFacts.{none_can}
use Rattle.saber_partial.specs.Young.{young_part}
use Rattle.saber_partial.proofs.gathering.Gathering.empty.Goals as goal

pub invariant_of-result : goal.invariant_of-result
invariant_of-result c =
    let young = young_part c.empty-2.result.order c.empty-2.result.groups.entries in
    (subst (λ (p : Part). CanMerge p young) (sym c.empty.ensures.part) (none_can young), c.empty-2.ensures.order)

pub returns : goal.returns
returns c = ap₂ merge c.empty.ensures.part c.empty-2.ensures.none ∙ merge-empty_left no_part
