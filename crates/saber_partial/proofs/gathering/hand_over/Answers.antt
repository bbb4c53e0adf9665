use Rattle.std.proofs.Common.{◌≡◌, sym, subst, ◌∙◌, ap, ap₂}
use Rattle.std.proofs.lemmas.Result.{on_ok_weaker}
use Rattle.saber_plan.specs.Parts.{merge}
use Rattle.saber_plan.specs.Facts.Parts.{merge-empty_right}
use Rattle.saber_partial.specs.Tallies.{CanMerge}
use Rattle.saber_partial.specs.MergeFacts.{can_none}
use Rattle.saber_partial.specs.Young.{young_part}
use Rattle.saber_partial.proofs.gathering.hand_over.Goals as goal

pub returns-clause-can : goal.returns-clause-can
returns-clause-can c =
    subst (CanMerge c.take_in.new.self.part) (sym (ap (young_part c.take_part.new.self.order) c.in_ok-full.ensures.none)) (can_none c.take_in.new.self.part)

pub returns-clause-same : goal.returns-clause-same
returns-clause-same c =
    let pile = c.args.pile.now.part in
    on_ok_weaker c.take_in.result (λ (e : c.take_in.new.self.part ≡ merge pile c.in_ok-full.full).
    ap₂ merge e (ap (young_part c.take_part.new.self.order) c.in_ok-full.ensures.none) ∙ merge-empty_right (merge pile c.in_ok-full.full) ∙ ap (merge pile) c.in_ok-full.ensures.part) c.take_in.ensures
