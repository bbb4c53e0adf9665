use Rattle.std.proofs.Common.{drop}
use Rattle.std.specs.List.{AllByRecursion}
use Rattle.saber_join.specs.Ties.{IsOf}
use Rattle.saber_join.proofs.ties.are_of.Given as goal

abbrev pub invariant-loop-factor : goal.invariant-loop-factor
invariant-loop-factor l = AllByRecursion (IsOf l.side) (drop l.factor-index l.factors) → AllByRecursion (IsOf l.side) l.factors
