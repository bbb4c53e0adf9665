use Rattle.std.proofs.Common.{◌≡◌, ◌++◌, map, drop}
use Rattle.saber_plan.specs.Trees as t
use Rattle.saber_check.proofs.PlanLemmas.{unit_plan, conj_plan}
use Rattle.saber_query.specs.Trees.{query_of}
use Rattle.saber_check.proofs.predicates.+plan.Given as goal

abbrev pub invariant-plan_conj-loop-unit : goal.invariant-plan_conj-loop-unit
invariant-plan_conj-loop-unit l = map t.test_of l.list.items ++ map (unit_plan (query_of l.query)) (drop l.unit-index l.unit-items) ≡ map t.test_of l.initial.list.items ++ map (unit_plan (query_of l.query)) l.unit-items

abbrev pub invariant-plan_pred-loop-conj : goal.invariant-plan_pred-loop-conj
invariant-plan_pred-loop-conj l = map t.both_of l.list.items ++ map (conj_plan (query_of l.query)) (drop l.conj-index l.conj-items) ≡ map t.both_of l.initial.list.items ++ map (conj_plan (query_of l.query)) l.conj-items
