use Rattle.std.proofs.Common.{◌≡◌, ◌++◌, map, drop}
use Rattle.saber_check.specs.Plans.{plan_factor}
use Rattle.saber_check.specs.Bounds.{factors}
use Rattle.saber_query.specs.Trees.{query_of}
use Rattle.saber_check.proofs.expressions.product.Given as goal

abbrev pub invariant-loop-next : goal.invariant-loop-next
invariant-loop-next l = l.list.items ++ map (plan_factor (query_of l.query)) (drop l.next-index l.factors) ≡ map (plan_factor (query_of l.query)) (factors l.prod)
