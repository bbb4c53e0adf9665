use Rattle.std.proofs.Common.{◌≡◌, length, take, drop}
use Rattle.std.specs.List.{AllByRecursion}
use Rattle.saber_plan.specs.declared.plans.Fold.TheVariants.{Sum}
use Rattle.saber_partial.specs.Gathering.{plan_folds}
use Rattle.saber_partial.proofs.layout.Layout.of_aggregates.Given as goal

abbrev pub invariant-loop-k : goal.invariant-loop-k
invariant-loop-k l = record {
  long : length l.folds ≡ 32;
  front : take l.k l.folds ≡ take l.k (plan_folds l.aggregates);
  rest : AllByRecursion (λ f. f ≡ Sum) (drop l.k l.folds);
}
