use Rattle.std.proofs.Common.{[], subst}
use Rattle.saber_plan.specs.declared.plans.Plan.{Plan}
use Rattle.saber_plan.specs.Trees.{tree_of}
use Rattle.saber_plan.specs.Inputs.{going_on}
use Rattle.saber_parts.specs.Taking.{HasTaken}
use Rattle.saber_select.proofs.windowed_operator.WindowedOperatorOperator.empty_store.Goals as goal

pub no_parts-requires : goal.no_parts-requires
no_parts-requires c = c.self.invariant

pub returns-clause-taken : goal.returns-clause-taken
returns-clause-taken c = subst (λ (p : Plan). HasTaken (tree_of p) c.no_parts.result.output (going_on [])) c.self.view_is c.no_parts.ensures.taken
