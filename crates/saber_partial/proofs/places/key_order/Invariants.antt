use Rattle.std.proofs.Common.{◌≡◌, ◌≤◌, length, drop}
use Rattle.saber_plan.specs.Answers.{key_cmp}
use Rattle.saber_partial.proofs.places.key_order.Given as goal

abbrev pub invariant-loop-i : goal.invariant-loop-i
invariant-loop-i l = record {
  within : l.i ≤ length l.other;
  rest : key_cmp (drop l.i l.key) (drop l.i l.other) ≡ key_cmp l.key l.other;
}
