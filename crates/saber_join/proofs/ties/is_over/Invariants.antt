use Rattle.std.proofs.Common.{drop}
use Rattle.saber_join.specs.Ties.{Over}
use Rattle.saber_join.proofs.ties.is_over.Given as goal

abbrev pub invariant-loop-product : goal.invariant-loop-product
invariant-loop-product l = Over l.side (drop l.product-index l.product-items) → Over l.side l.product-items
