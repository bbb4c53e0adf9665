use Rattle.std.proofs.Common.{subst, sym, ◌∙◌}
use Rattle.saber_plan.specs.declared.plans.Plan.{Plan}
use Rattle.saber_plan.specs.Trees.{tree_of}
use Rattle.saber_plan.specs.Checked.{ExprFits, IsChecked}
use Rattle.saber_eval.specs.Widths.{widths}
use Rattle.saber_join.specs.Ties.{Ends}
use Rattle.saber_join.proofs.Tying.{left_key_fits, right_key_fits}
use Rattle.saber_join.proofs.join.Join.key.Goals as goal

pub key-requires : goal.key-requires
key-requires c =
    let r = c.args.row.now in
    subst (λ (t : Ends). ExprFits (widths r.values r.values) t.left) (sym c.tie.view_is) (left_key_fits (tree_of c.args.self.now) (subst (λ (p : Plan). IsChecked (tree_of p)) c.self.view_is c.self.invariant.0).predicate c.args.tie.now c.in-Some.tie c.requires.tie c.in-Some.is r c.requires.row (sym c.side.ensures ∙ c.in-Left.is))

pub key-requires-in-Right : goal.key-requires-in-Right
key-requires-in-Right c =
    let r = c.args.row.now in
    subst (λ (t : Ends). ExprFits (widths r.values r.values) t.right) (sym c.tie.view_is) (right_key_fits (tree_of c.args.self.now) (subst (λ (p : Plan). IsChecked (tree_of p)) c.self.view_is c.self.invariant.0).predicate c.args.tie.now c.in-Some.tie c.requires.tie c.in-Some.is r c.requires.row (sym c.side.ensures ∙ c.in-Right.is))
