use Rattle.std.proofs.Common.{◌/◌, sym, ◌∙◌, ap, ap₂, subst}
use Rattle.saber_plan.specs.declared.plans.Plan.{Plan}
use Rattle.saber_plan.specs.Trees.{tree_of}
use Rattle.saber_plan.specs.Answers.{frame}
use Rattle.saber_plan.specs.GivenRows.{IsRowOf}
use Rattle.saber_plan.specs.Windows.{Placed}
use Rattle.saber_panes.specs.Panes.{pane_of}
use Rattle.saber_panes.proofs.PaneCuts.{cut_some}
use Rattle.saber_panes.proofs.PanePoints.{point_of_left, row_is_left}
use Rattle.saber_laws.proofs.CheckedLaws.{groups_have_one_window}
use Rattle.saber_panes.proofs.cuts.Cuts.pane_of.Goals as goal

pub nonzero_div-result : goal.nonzero_div-result
nonzero_div-result c = cut_some _ _ _ _ c.self.invariant

pub returns : goal.returns
returns c =
    let cut = c.self.invariant in
    let q = tree_of c.self.inside.plan.now in
    let row = subst (λ (p : Plan). IsRowOf (tree_of p) c.args.row.now) (sym c.self.view_is) c.requires in
    let one = groups_have_one_window q cut.checked cut.group in
    let x : Placed = record { row = c.args.row.now; before = c.args.before.now } in
    ap₂ ◌/◌ (c.point.ensures.point ∙ point_of_left c.self.inside.window.measure x (row_is_left q one.stream c.args.row.now one.streams row)) cut.wide
    ∙ sym (ap (λ f. pane_of f x) cut.windowed)
    ∙ ap (λ (p : Plan). pane_of (frame (tree_of p)) x) c.self.view_is
