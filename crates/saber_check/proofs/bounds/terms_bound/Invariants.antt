use Rattle.std.proofs.Common.{◌≡◌, ◌≤◌, ◌^◌, drop}
use Rattle.saber_check.specs.Walked.{running_sum, prods}
use Rattle.saber_check.proofs.bounds.terms_bound.Given as goal

abbrev pub invariant-loop-term : goal.invariant-loop-term
invariant-loop-term l = record {
  small : l.sum ≤ 2 ^ 126;
  same : running_sum l.sum (prods (drop l.term-index l.terms)) ≡ running_sum l.first (prods l.terms);
}
