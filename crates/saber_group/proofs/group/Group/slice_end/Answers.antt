use Rattle.std.proofs.Common.{◌≡◌, ap, subst, ◌∙◌, arith}
use Rattle.saber_plan.specs.declared.plans.Plan.{Plan}
use Rattle.saber_plan.specs.Trees.{tree_of}
use Rattle.saber_plan.specs.Windows.{Frame}
use Rattle.saber_plan.specs.Answers.{frame}
use Rattle.saber_plan.specs.Facts.Rows.{left_small}
use Rattle.saber_window.specs.Together.{LieTogether}
use Rattle.saber_group.proofs.RowsTogether.{left_behind, order_behind}
use Rattle.saber_group.proofs.GroupPlans.{has_window}
use Rattle.saber_group.proofs.group.Group.slice_end.Goals as goal

pub slice_end-requires-clause-small : goal.slice_end-requires-clause-small
slice_end-requires-clause-small c =
    let b = c.args.batch.now in
    let few = left_small (tree_of c.args.self.now) b.before c.args.mark.now b.rows.now c.args.from c.requires.fits c.requires.mark in
    omega (arith, few)

pub slice_end-requires-clause-left : goal.slice_end-requires-clause-left
slice_end-requires-clause-left c =
    let b = c.args.batch.now in
    left_behind (tree_of c.args.self.now) (has_window c.args.self.now c.self.view_is c.self.invariant.0 c.self.invariant.1).window b.before b.rows.now c.args.from c.requires.fits

pub slice_end-requires-clause-order : goal.slice_end-requires-clause-order
slice_end-requires-clause-order c =
    let b = c.args.batch.now in
    order_behind (tree_of c.args.self.now) b.before c.args.mark.now b.rows.now c.args.from c.requires.fits c.requires.mark

pub returns-clause-together : goal.returns-clause-together
returns-clause-together c =
    let same : c.self.inside.windows ≡ frame (tree_of c.args.self.now) = c.self.invariant.2 ∙ ap (λ (p : Plan). frame (tree_of p)) c.self.view_is in
    subst (λ (f : Frame). LieTogether f c.args.mark.now c.args.batch.now.rows.now c.args.from c.slice_end.result) same c.slice_end.ensures.together
