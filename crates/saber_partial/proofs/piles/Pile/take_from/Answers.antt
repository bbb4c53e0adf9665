use Rattle.std.proofs.Common.{sym, ◌∙◌, ap}
use Rattle.saber_plan.specs.Parts.{merge}
use Rattle.saber_plan.specs.Facts.Parts.{merge-empty_right}
use Rattle.saber_partial.proofs.piles.Pile.take_from.Goals as goal

pub returns-then-is_empty-clause-part : goal.returns-then-is_empty-clause-part
returns-then-is_empty-clause-part g c = sym (ap (merge c.args.self.now.part) (c.is_empty.ensures.none c.if-is_empty.true) ∙ merge-empty_right c.args.self.now.part)
