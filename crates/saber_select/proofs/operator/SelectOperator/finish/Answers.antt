use Rattle.std.proofs.Common.{◌∙◌, ap, subst}
use Rattle.saber_plan.specs.declared.plans.Plan.{Plan}
use Rattle.saber_plan.specs.Trees.{tree_of}
use Rattle.saber_select.specs.Texts.{text_alone}
use Rattle.saber_select.proofs.Shown.{IsSelection, shares_are}
use Rattle.saber_select.proofs.operator.SelectOperator.finish.Goals as goal

pub returns : goal.returns
returns c s r x y seen whole of =
    let inv = subst (λ (p : Plan). IsSelection (tree_of p)) c.self.view_is (c.self.invariant.0, c.self.invariant.1, c.self.invariant.2) in
    ap text_alone seen.is ∙ shares_are (tree_of c.args.self.now) s.first s.back s.rows s.ended inv.0 inv.1 inv.2 ∙ of.gives
