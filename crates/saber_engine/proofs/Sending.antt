-- A plan may be shared by threads: a step that `search` needn't make anew for each part of an operator that lends the plan.
use denote.Param.Send.{IsSync, sendable}
use Rattle.std.proofs.Crossing.{crosses, Box-sync, Vec-sync}
use Rattle.saber_plan.proofs.predicates.Unit.TheLaws.TheKnot.{sync-Pred}
use Rattle.saber_plan.specs.contracts.predicates.Pred as pred
use Rattle.saber_plan.specs.contracts.plans.Aggregate as aggregate
use Rattle.saber_plan.specs.contracts.plans.Plan as plan

aggregate_sync : IsSync aggregate.the_row
aggregate_sync = search (sendable, crosses) depth 40

-- A predicate is in a cycle of types: what rattle shows of the cycle asks for boxes, expressions, comparisons and vectors.
pred_sync : IsSync (pred.the_field).row
pred_sync = sync-Pred Box-sync (search (sendable, crosses) depth 40) (search (sendable, crosses) depth 40) Vec-sync

pub plan_sync : IsSync plan.the_row
plan_sync = search (sendable, crosses, aggregate_sync, pred_sync) depth 40 fits 20000
