use Rattle.std.proofs.Common.{◌≡◌, ◌++◌, map, drop}
use Rattle.saber_check.specs.Plans.{plan_expr, plan_term}
use Rattle.saber_query.specs.Trees.{query_of}
use Rattle.saber_check.proofs.expressions.expr.Given as goal

abbrev pub invariant-loop-term : goal.invariant-loop-term
invariant-loop-term l = l.list.items ++ map (plan_term (query_of l.query)) (drop l.term-index l.terms) ≡ plan_expr (query_of l.query) l.expr
