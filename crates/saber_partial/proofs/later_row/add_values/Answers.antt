use Rattle.std.proofs.Common.{◌≡◌, ◌+◌, ◌^◌, ◌<◌, List, [], ◌∷◌, length, drop, get_or, set, pos, sym, ◌∙◌, ap, ap₂, subst, subst₂, arith}
use Rattle.std.proofs.lemmas.List.{drop_more, get_or-map, get_or-set_other, length-set}
use Rattle.std.specs.List.{AllByRecursion}
use Rattle.saber_plan.specs.declared.plans.Aggregate.{Aggregate}
use Rattle.saber_plan.specs.declared.plans.Fold.TheVariants.{Sum}
use Rattle.saber_plan.specs.Answers.{step}
use Rattle.saber_plan.specs.Values.{value}
use Rattle.saber_partial.specs.Flat.{with_folds}
use Rattle.saber_partial.specs.Gathering.{plan_folds, values_over, IsSmall}
use Rattle.saber_partial.specs.Sources.{IsSource}
use Rattle.saber_partial.specs.declared.sources.Source.TheVariants.{Column}
use Rattle.saber_partial.specs.Tallies.{SumWithin}
use Rattle.saber_partial.proofs.Folded.{length-folds, length-over, stepped_all, stepped_from, stepped_more}
use Rattle.saber_partial.proofs.Sourced.{room_at, source_at, sources_long}
use Rattle.saber_partial.proofs.later_row.add_values.Goals as goal

pub bounds-sources-k : goal.bounds-sources-k
bounds-sources-k c =
    let many = sources_long c.args.aggregates.now c.args.sources.now c.requires.sources in
    let test = c.loop-k-test.true in
    let long = c.requires.long in
    omega (arith, many, test, long)

pub add_value-requires-clause-source : goal.add_value-requires-clause-source
add_value-requires-clause-source c =
    let test = c.loop-k-test.true in
    let long = c.requires.long in
    let g = c.index-aggregates-k.result in
    subst (λ (x : Aggregate). IsSource x.expr (get_or c.args.sources.now c.loop-k.k (Column 0))) (sym c.index-aggregates-k.is)
    (source_at c.args.aggregates.now c.args.sources.now c.loop-k.k g (Column 0) c.requires.sources (omega (arith, test, long)))

pub add_value-requires-clause-room : goal.add_value-requires-clause-room
add_value-requires-clause-room c =
    let k = c.loop-k.k in
    let test = c.loop-k-test.true in
    let long = c.requires.long in
    let g = c.index-aggregates-k.result in
    let here = room_at c.args.aggregates.now c.args.xs.now k g (omega (arith, test, long)) long c.requires.room in
    subst₂ (λ (x : Aggregate) z. SumWithin (2 ^ 126) x.fold z) (sym c.index-aggregates-k.is) (sym (c.loop-k.invariant.left k (omega arith))) here

pub loop-k-preserved : goal.loop-k-preserved
loop-k-preserved c =
    let gs = c.args.aggregates.now in
    let zs = c.args.row.now.values in
    let xs = c.loop-k.xs in
    let k = c.loop-k.k in
    let inv = c.loop-k.invariant in
    let test = c.loop-k-test.true in
    let long = inv.long in
    let same = c.requires.long in
    let a = length-folds gs in
    let b = length-over zs gs in
    let g = c.index-aggregates-k.result in
    let low : k < length gs = omega (arith, test, same) in
    let z = step g.fold (get_or xs k (pos 0)) (value g.expr zs []) in
    let fold : g.fold ≡ get_or (plan_folds gs) k Sum = ap (λ (x : Aggregate). x.fold) c.index-aggregates-k.is ∙ sym (get_or-map (λ (x : Aggregate). x.fold) gs k g Sum low) in
    let one : value g.expr zs [] ≡ get_or (values_over zs gs) k (pos 0) = ap (λ (x : Aggregate). value x.expr zs []) c.index-aggregates-k.is ∙ sym (get_or-map (λ (x : Aggregate). value x.expr zs []) gs k g (pos 0) low) in
    let more : stepped_from (plan_folds gs) (set xs k z) (values_over zs gs) (k + 1) ≡ stepped_from (plan_folds gs) xs (values_over zs gs) k =
    stepped_more (plan_folds gs) xs (values_over zs gs) k z (omega (arith, low, long, same)) (omega (arith, long, same, a)) (omega (arith, long, same, b))
    (ap₂ (λ f v. step f (get_or xs k (pos 0)) v) fold one) in
    let new = c.add_value.ensures.all in
    record {
      long = ap length new ∙ length-set xs k _ ∙ long;
      left = λ j h. ap (λ l. get_or l j (pos 0)) new ∙ get_or-set_other xs k j z (pos 0) (λ e. omega (arith, h, e)) ∙ inv.left j (omega (arith, h));
      joined = ap (λ l. stepped_from (plan_folds gs) l (values_over zs gs) (k + 1)) new ∙ more ∙ inv.joined;
      small = λ h. inv.small (subst (λ (l : List Aggregate). AllByRecursion IsSmall (with_folds (plan_folds l) (values_over zs l)))
          (sym (drop_more gs k g low ∙ ap (λ (x : Aggregate). x ∷ drop (k + 1) gs) (sym c.index-aggregates-k.is))) (c.add_value.ensures.small, h));
    }

pub returns-clause-all : goal.returns-clause-all
returns-clause-all c =
    let test = c.loop-k-test.false in
    let long = c.loop-k.invariant.long in
    let gs = c.args.aggregates.now in
    sym (stepped_all (plan_folds gs) c.loop-k.xs (values_over c.args.row.now.values gs) c.loop-k.k (omega (arith, test, long))) ∙ c.loop-k.invariant.joined
