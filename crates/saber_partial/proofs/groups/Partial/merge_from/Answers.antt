use Rattle.std.proofs.Common.{◌∙◌, ap, sym}
use Rattle.saber_plan.specs.Parts.{Part, merge}
use Rattle.saber_plan.specs.Facts.Parts.{merge-empty_left}
use Rattle.saber_partial.proofs.groups.Partial.merge_from.Goals as goal

pub returns-then-is_empty-clause-ok : goal.returns-then-is_empty-clause-ok
returns-then-is_empty-clause-ok g c = c.in_ok-self.ensures ∙ sym (merge-empty_left c.args.other.now) ∙ ap (λ (m : Part). merge m c.args.other.now) (sym (c.is_empty.ensures.none c.if-is_empty.true))
