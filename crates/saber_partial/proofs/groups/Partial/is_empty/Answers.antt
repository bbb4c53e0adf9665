use Rattle.std.proofs.Common.{◌≡◌, ◌∙◌, ap, subst, Some, ◌==◌}
use Rattle.std.proofs.lemmas.Bool.{both_ways}
use Rattle.saber_plan.specs.Parts.{Part}
use Rattle.saber_plan.specs.Tasks.{full}
use Rattle.saber_partial.proofs.Adding.{some_groups}
use Rattle.saber_partial.proofs.groups.Partial.is_empty.Goals as goal

pub returns-clause-some : goal.returns-clause-some
returns-clause-some c = λ e. subst (λ (p : Part). full p ≡ Some p) c.self.view_is (some_groups c.self.inside.groups.entries (λ n. both_ways _ e (ap (λ k. k == 0) (c.len.ensures ∙ n))))
