use Rattle.std.proofs.Common.{◌≡◌, ◌≤◌, ◌^◌, ◌+◌, drop}
use Rattle.saber_check.specs.Widths.{span, term_width}
use Rattle.saber_check.specs.Walked.{sum_faults, prods}
use Rattle.saber_check.proofs.bounds.terms_pass.Given as goal

abbrev pub invariant-loop-term : goal.invariant-loop-term
invariant-loop-term l = record {
  small : l.sum ≤ 2 ^ 126;
  place : l.place + span term_width (drop l.term-index l.terms) ≡ l.index + span term_width l.terms;
  same : sum_faults l.sum l.place (prods (drop l.term-index l.terms)) ≡ sum_faults l.first l.index (prods l.terms);
}
