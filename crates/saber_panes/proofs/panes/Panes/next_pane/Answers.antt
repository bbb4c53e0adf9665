use Rattle.std.proofs.Common.{◌≡◌, ℕ, ◌≤◌, ◌<◌, None, subst}
use Rattle.std.specs.FinMap.{get}
use Rattle.saber_plan.specs.Tasks.{Parts}
use Rattle.saber_panes.proofs.PaneMaps.{first_there, none_there}
use Rattle.saber_panes.proofs.panes.Panes.next_pane.Goals as goal

pub returns-in-Some-clause-some : goal.returns-in-Some-clause-some
returns-in-Some-clause-some c =
    subst (λ (m : Parts). (c.args.from ≤ c.in-Some.pane.now) × (c.in-Some.pane.now < c.args.past) × ((k : ℕ) → c.args.from ≤ k → k < c.in-Some.pane.now → get m k ≡ None)) c.self.view_is
    (first_there c.self.inside.parts c.args.from c.args.past c.range.result (c.range.ensures.in_range tt) _ _ c.in-Some.ensures.steps)

pub returns-in-None-clause-none : goal.returns-in-None-clause-none
returns-in-None-clause-none c = subst (λ (m : Parts). (k : ℕ) → c.args.from ≤ k → k < c.args.past → get m k ≡ None) c.self.view_is
    (none_there c.self.inside.parts c.args.from c.args.past c.range.result (c.range.ensures.in_range tt) c.in-None.ensures.steps.0)
