use Rattle.std.proofs.Common.{◌≡◌, ◌≤◌, ◌^◌, drop}
use Rattle.saber_check.specs.Walked.{running_product}
use Rattle.saber_check.proofs.bounds.factors_bound.Given as goal

abbrev pub invariant-loop-factor : goal.invariant-loop-factor
invariant-loop-factor l = record {
  small : l.bound ≤ 2 ^ 126;
  same : running_product l.bound (drop l.factor-index l.factors) ≡ running_product l.first l.factors;
}
