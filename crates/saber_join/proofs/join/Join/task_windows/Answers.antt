use Rattle.std.proofs.Common.{◌≡◌, ◌++◌, ◌∙◌, ap, sym, subst, subst₂, nat_cmp}
use Rattle.saber_plan.specs.declared.windows.Mark.{Mark}
use Rattle.saber_plan.specs.declared.plans.Plan.{Plan}
use Rattle.saber_plan.specs.declared.plans.Shape.TheVariants.{Join}
use Rattle.saber_plan.specs.Trees.{tree_of}
use Rattle.saber_plan.specs.Windows.{mark_after, end_mark, closed_count}
use Rattle.saber_plan.specs.Answers.{frame}
use Rattle.saber_plan.specs.Checked.{IsChecked}
use Rattle.saber_plan.specs.GivenRows.{RowsFit}
use Rattle.saber_window.specs.declared.bounds.Bounds.{Bounds}
use Rattle.saber_window.specs.Kinds.{AreBounds}
use Rattle.saber_join.specs.Open.{seen_parts, HoldsTask}
use Rattle.saber_plan.specs.Facts.Trees.{sorted_seen}
use Rattle.saber_laws.proofs.CheckedLaws.{checked_fit}
use Rattle.saber_join.proofs.Finishing.{of_task}
use Rattle.saber_join.proofs.Passing.{ends_there, rest_fits, holds_all}
use Rattle.saber_join.proofs.join.Join.task_windows.Goals as goal

pub mark_before-first-requires : goal.mark_before-first-requires
mark_before-first-requires c =
    let s = c.requires.0 in
    (mark_after s.first c.requires.1.passed, ends_there (tree_of c.args.self.now) c.args.draft.now s c.requires.1 c.requires.2, c.requires.1.last)

pub windows_of-requires-clause-fits : goal.windows_of-requires-clause-fits
windows_of-requires-clause-fits c =
    let q = tree_of c.args.self.now in
    let d = c.args.draft.now in
    let s = c.requires.0 in
    let seen = c.requires.1 in
    let first : c.mark_before-first.result ≡ mark_after s.first seen.passed = c.mark_before-first.ensures (mark_after s.first seen.passed) (ends_there q d s seen c.requires.2) seen.last in
    subst (λ m. RowsFit q m (d.back ++ d.rows)) (sym first) (rest_fits q d s seen c.requires.2)

pub windows_of-requires-clause-after : goal.windows_of-requires-clause-after
windows_of-requires-clause-after c =
    let q = tree_of c.args.self.now in
    let d = c.args.draft.now in
    let s = c.requires.0 in
    let seen = c.requires.1 in
    let first : c.mark_before-first.result ≡ mark_after s.first seen.passed = c.mark_before-first.ensures (mark_after s.first seen.passed) (ends_there q d s seen c.requires.2) seen.last in
    ends_there q d s seen c.requires.2 ∙ ap (λ m. mark_after m d.back) (sym first)

pub returns : goal.returns
returns c s seen whole =
    let d = c.args.draft.now in
    let q = tree_of c.args.self.now in
    let checked = subst (λ (p : Plan). IsChecked (tree_of p)) c.self.view_is c.self.invariant.0 in
    let join = subst (λ (p : Plan). (tree_of p).shape ≡ Join) c.self.view_is c.self.invariant.1 in
    let es = c.in_ok-found.found.0.entries in
    let before : d.before ≡ mark_after s.first s.back = seen.before ∙ whole.meets in
    let all : c.in_ok-found.found.1 ≡ mark_after (mark_after s.first s.back) s.rows = c.in_ok-found.ensures.last ∙ (λ j. mark_after (before j) (seen.rows j)) in
    let b : Bounds = c.bounds-bounds.result in
    let given : AreBounds (frame q) (mark_after s.first s.back) (end_mark s.ended (mark_after (mark_after s.first s.back) s.rows)) b = subst₂ (λ (m n : Mark). AreBounds (frame q) m n b) before (c.end_mark-after.ensures ∙ (λ j. end_mark (seen.ended j) (all j))) c.bounds-bounds.ensures in
    let first : c.mark_before-first.result ≡ mark_after s.first seen.passed = c.mark_before-first.ensures (mark_after s.first seen.passed) (ends_there q d s seen whole) seen.last in
    let parts = seen_parts es in
    let rest : HoldsTask q (closed_count (frame q) s.before) (mark_after s.first seen.passed) d.back d.rows parts = subst₂ (λ (m n : Mark). HoldsTask q (closed_count (frame q) n) m d.back d.rows parts) first seen.before c.in_ok-found.ensures.windows in
    let holds : HoldsTask q (closed_count (frame q) s.before) s.first (seen.passed ++ d.back) d.rows parts = holds_all q join (checked_fit q checked) (closed_count (frame q) s.before) s.first seen.passed d.back d.rows seen.none parts rest in
    let contents : HoldsTask q (closed_count (frame q) s.before) s.first s.back s.rows parts = subst₂ (λ l r. HoldsTask q (closed_count (frame q) s.before) s.first l r parts) (sym seen.back) seen.rows holds in
    of_task q checked join s whole b given es (sorted_seen nat_cmp (λ k. k) (λ x. x) es c.len-count.ensures.ordered) (subst (λ m. HoldsTask q (closed_count (frame q) m) s.first s.back s.rows parts) whole.meets contents)
