use Rattle.std.proofs.Common.{◌≡◌, IfOk, sym, subst, ◌∙◌, ap}
use Rattle.saber_plan.specs.Trees.{tree_of}
use Rattle.saber_plan.specs.Parts.{Part, merge, part_answers}
use Rattle.saber_plan.specs.Facts.Parts.{merge-empty_right}
use Rattle.saber_partial.proofs.piles.answers_of_both.Goals as goal

pub returns-in_default-clause-ok : goal.returns-in_default-clause-ok
returns-in_default-clause-ok g c =
    let all = ap (merge c.args.first.now) c.in_default.ensures ∙ merge-empty_right c.args.first.now in
    subst (λ (p : Part). IfOk c.answers.result (λ a. a ≡ part_answers (tree_of c.args.plan.now) p)) (sym all) c.answers.ensures
