use Rattle.std.proofs.Common.{◌≡◌, ◌++◌, length, take, drop}
use Rattle.std.specs.List.{AllByRecursion}
use Rattle.saber_partial.specs.Flat.{with_folds}
use Rattle.saber_partial.specs.Gathering.{plan_folds, values_over, IsSmall}
use Rattle.saber_partial.proofs.first_row.write_values.Given as goal

abbrev pub invariant-loop-k : goal.invariant-loop-k
invariant-loop-k l = record {
  long : length l.xs ≡ length l.fn.xs;
  front : take l.k l.xs ++ values_over l.row.values (drop l.k l.aggregates) ≡ values_over l.row.values l.aggregates;
  small : AllByRecursion IsSmall (with_folds (plan_folds (drop l.k l.aggregates)) (values_over l.row.values (drop l.k l.aggregates)))
      → AllByRecursion IsSmall (with_folds (plan_folds l.aggregates) (values_over l.row.values l.aggregates));
}
