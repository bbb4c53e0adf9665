use Rattle.std.proofs.Common.{◌≡◌, ◌+◌, ◌<◌, ◌++◌, [], ◌∷◌, length, get_or, sym, ◌∙◌, ap₂, subst, arith}
use Rattle.std.proofs.lemmas.List.{drop_more, drop-set-lt, get_or-map, length-set, take_more, take_more_set}
use Rattle.std.specs.List.{AllByRecursion}
use Rattle.saber_plan.specs.declared.plans.Aggregate.{Aggregate}
use Rattle.saber_plan.specs.declared.plans.Fold.TheVariants.{Sum}
use Rattle.saber_partial.specs.Gathering.{plan_folds}
use Rattle.saber_partial.proofs.Folded.{length-folds}
use Rattle.saber_partial.proofs.layout.Layout.of_aggregates.Goals as goal

pub loop-k-preserved : goal.loop-k-preserved
loop-k-preserved c =
    let gs = c.args.aggregates.now in
    let fs = c.loop-k.folds in
    let k = c.loop-k.k in
    let g = get_or gs k c.index-aggregates-k.result in
    let test = c.loop-k-test.true in
    let few = c.requires.few in
    let inv = c.loop-k.invariant in
    let long = inv.long in
    let many = length-folds gs in
    let low : k < length fs = omega (arith, test, few, long) in
    let own : get_or (plan_folds gs) k Sum ≡ g.fold = get_or-map (λ (x : Aggregate). x.fold) gs k c.index-aggregates-k.result Sum test in
    record {
      long = length-set fs k _ ∙ long;
      front = take_more_set fs k g.fold low ∙ ap₂ (λ a b. a ++ b ∷ []) inv.front (sym own) ∙ sym (take_more (plan_folds gs) k Sum (omega (arith, test, many)));
      rest = subst (AllByRecursion (λ f. f ≡ Sum)) (sym (drop-set-lt (k + 1) fs k g.fold (omega arith)))
          (subst (AllByRecursion (λ f. f ≡ Sum)) (drop_more fs k Sum low) inv.rest).1;
    }
