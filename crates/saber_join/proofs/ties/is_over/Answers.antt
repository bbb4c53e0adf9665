use Rattle.std.proofs.Common.{subst}
use Rattle.std.specs.List.{AllByRecursion}
use Rattle.saber_plan.specs.declared.expressions.Product.{Product}
use Rattle.saber_join.specs.Ties.{IsOf, Over}
use Rattle.saber_join.proofs.Tying.{all_more, all_done}
use Rattle.saber_join.proofs.ties.is_over.Goals as goal

pub loop-product-preserved : goal.loop-product-preserved
loop-product-preserved c =
    let own : AllByRecursion (IsOf c.args.side) c.product-item.result.factors = subst (AllByRecursion (IsOf c.args.side)) c.as_slice.ensures (c.are_of.ensures c.if-not-are_of.false) in
    all_more (λ (p : Product). AllByRecursion (IsOf c.args.side) p.factors) c.as_slice-product-items.result.now c.loop-product.product-index c.product-item.result c.loop-product-test.true (subst (λ (p : Product). AllByRecursion (IsOf c.args.side) p.factors) c.product-item.is own) c.loop-product.invariant

pub returns : goal.returns
returns c _ =
    subst (Over c.args.side) c.as_slice-product-items.ensures
    (all_done (λ (p : Product). AllByRecursion (IsOf c.args.side) p.factors) c.as_slice-product-items.result.now c.loop-product.product-index c.loop-product-test.false c.loop-product.invariant)
