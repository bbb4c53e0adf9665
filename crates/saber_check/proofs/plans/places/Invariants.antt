use Rattle.std.proofs.Common.{◌≡◌, ◌++◌, map, drop}
use Rattle.saber_check.specs.Faults.{keys}
use Rattle.saber_check.specs.Plans.{plan_place}
use Rattle.saber_query.specs.Trees.{query_of}
use Rattle.saber_check.proofs.plans.places.Given as goal

abbrev pub invariant-loop-column : goal.invariant-loop-column
invariant-loop-column l = l.list.items ++ map (plan_place (query_of l.query)) (drop l.column-index l.columns) ≡ map (plan_place (query_of l.query)) (keys l.group)
