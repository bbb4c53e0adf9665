use Rattle.std.proofs.Common.{◌+◌, ◌<◌, ◌^◌, sym, ◌∙◌, ap, ap₂, subst, arith}
use Rattle.std.proofs.Math.Facts.{Fits-of_lt}
use Rattle.saber_plan.specs.Trees.{tree_of}
use Rattle.saber_plan.specs.Answers.{frame}
use Rattle.saber_panes.specs.Panes.{first_pane, pane_count}
use Rattle.saber_panes.proofs.PaneCuts.{cut_some, first_is, count_is}
use Rattle.saber_panes.proofs.cuts.Cuts.panes_of.Goals as goal

pub nonzero_div-first : goal.nonzero_div-first
nonzero_div-first c = cut_some _ _ _ _ c.self.invariant

pub overflow_mul-first : goal.overflow_mul-first
overflow_mul-first c =
    let s = c.self.inside in
    let first = first_is (tree_of s.plan.now) s.windows s.window s.width c.self.invariant c.args.i ∙ ap (λ p. first_pane (frame (tree_of p)) c.args.i) c.self.view_is in
    let low = c.requires in
    Fits-of_lt (subst (λ n. n < 2 ^ 64) (sym first) (omega (arith, low)))

pub nonzero_div-result : goal.nonzero_div-result
nonzero_div-result c = cut_some _ _ _ _ c.self.invariant

both : goal.returns-clause-past
both c =
    let s = c.self.inside in
    let first = first_is (tree_of s.plan.now) s.windows s.window s.width c.self.invariant c.args.i ∙ ap (λ p. first_pane (frame (tree_of p)) c.args.i) c.self.view_is in
    let count = count_is (tree_of s.plan.now) s.windows s.window s.width c.self.invariant ∙ ap (λ p. pane_count (frame (tree_of p))) c.self.view_is in
    ap₂ (λ a b. a + b) first count

pub overflow_add-result : goal.overflow_add-result
overflow_add-result c =
    let s = c.self.inside in
    let first = first_is (tree_of s.plan.now) s.windows s.window s.width c.self.invariant c.args.i ∙ ap (λ p. first_pane (frame (tree_of p)) c.args.i) c.self.view_is in
    let count = count_is (tree_of s.plan.now) s.windows s.window s.width c.self.invariant ∙ ap (λ p. pane_count (frame (tree_of p))) c.self.view_is in
    Fits-of_lt (subst (λ n. n < 2 ^ 64) (sym (ap₂ (λ a b. a + b) first count)) c.requires)

pub returns-clause-first : goal.returns-clause-first
returns-clause-first c = let s = c.self.inside in first_is (tree_of s.plan.now) s.windows s.window s.width c.self.invariant c.args.i ∙ ap (λ p. first_pane (frame (tree_of p)) c.args.i) c.self.view_is

pub returns-clause-past : goal.returns-clause-past
returns-clause-past c = both c
