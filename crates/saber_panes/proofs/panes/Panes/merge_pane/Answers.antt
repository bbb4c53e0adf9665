use Rattle.std.proofs.Common.{sym, ◌∙◌, ap, subst, Some, None}
use Rattle.std.specs.Option.{option_copied}
use Rattle.std.proofs.lemmas.Result.{on_ok_weaker}
use Rattle.std.specs.FinMap.{get}
use Rattle.saber_plan.specs.Parts.{merge}
use Rattle.saber_partial.specs.Tallies.{CanMerge}
use Rattle.saber_panes.specs.Panes.{or_none}
use Rattle.saber_panes.proofs.PaneMaps.{pane_at}
use Rattle.saber_plan.specs.Facts.Parts.{merge-empty_right}
use Rattle.saber_panes.proofs.panes.Panes.merge_pane.Goals as goal

pub merge_into-requires : goal.merge_into-requires
merge_into-requires g c =
    let here = ap (λ m. get m c.args.pane) (sym c.self.view_is) ∙ pane_at c.args.pane c.self.inside.parts.entries (Some c.in-Some.part.now) (sym c.get.ensures.value ∙ ap option_copied c.in-Some.is) in
    subst (CanMerge c.args.out.now) (ap or_none here) c.requires

pub returns-in-Some-clause-ok : goal.returns-in-Some-clause-ok
returns-in-Some-clause-ok g c =
    let here = ap (λ m. get m c.args.pane) (sym c.self.view_is) ∙ pane_at c.args.pane c.self.inside.parts.entries (Some c.in-Some.part.now) (sym c.get.ensures.value ∙ ap option_copied c.in-Some.is) in
    on_ok_weaker c.merge_into.result (λ e. e ∙ ap (merge c.args.out.now) (sym (ap or_none here))) c.merge_into.ensures.ok

pub returns-in-None-clause-ok : goal.returns-in-None-clause-ok
returns-in-None-clause-ok g c =
    let none = ap (λ m. get m c.args.pane) (sym c.self.view_is) ∙ pane_at c.args.pane c.self.inside.parts.entries None (sym c.get.ensures.value ∙ ap option_copied c.in-None.is) in
    sym (merge-empty_right c.args.out.now) ∙ ap (merge c.args.out.now) (sym (ap or_none none))
