use Rattle.std.proofs.Common.{◌≡◌, ℕ, ◌≤◌, length, get_or, drop, pos}
use Rattle.std.specs.List.{AllByRecursion}
use Rattle.saber_partial.specs.Flat.{with_folds}
use Rattle.saber_partial.specs.Gathering.{plan_folds, stepped_numbers, values_over, IsSmall}
use Rattle.saber_partial.proofs.Folded.{stepped_from}
use Rattle.saber_partial.proofs.later_row.add_values.Given as goal

abbrev pub invariant-loop-k : goal.invariant-loop-k
invariant-loop-k l = record {
  long : length l.xs ≡ length l.fn.xs;
  left : (j : ℕ) → l.k ≤ j → get_or l.xs j (pos 0) ≡ get_or l.fn.xs j (pos 0);
  joined : stepped_from (plan_folds l.aggregates) l.xs (values_over l.row.values l.aggregates) l.k ≡ stepped_numbers (plan_folds l.aggregates) l.fn.xs (values_over l.row.values l.aggregates);
  small : AllByRecursion IsSmall (with_folds (plan_folds (drop l.k l.aggregates)) (values_over l.row.values (drop l.k l.aggregates)))
      → AllByRecursion IsSmall (with_folds (plan_folds l.aggregates) (values_over l.row.values l.aggregates));
}
