use Rattle.std.proofs.Common.{[], subst}
use Rattle.saber_plan.specs.declared.plans.Plan.{Plan}
use Rattle.saber_plan.specs.Trees.{tree_of}
use Rattle.saber_plan.specs.Inputs.{going_on}
use Rattle.saber_group.specs.SliceStores.{TakenIn}
use Rattle.saber_group.proofs.operator.GroupOperatorOperator.empty_store.Goals as goal

pub no_slices-requires : goal.no_slices-requires
no_slices-requires c = c.self.invariant.0

pub returns-clause-taken : goal.returns-clause-taken
returns-clause-taken c = subst (λ (p : Plan). TakenIn (tree_of p) (going_on []) c.no_slices.result) c.self.view_is c.no_slices.ensures.taken
