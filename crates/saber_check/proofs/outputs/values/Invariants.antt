use Rattle.std.proofs.Common.{◌≡◌, ◌++◌, map, drop}
use Rattle.saber_check.specs.Faults.{items}
use Rattle.saber_check.specs.Plans.{plan_value}
use Rattle.saber_query.specs.Trees.{query_of}
use Rattle.saber_check.proofs.outputs.values.Given as goal

abbrev pub invariant-loop-next : goal.invariant-loop-next
invariant-loop-next l = l.list.items ++ map (plan_value (query_of l.query)) (drop l.next-index l.others) ≡ map (plan_value (query_of l.query)) (items (query_of l.query))
