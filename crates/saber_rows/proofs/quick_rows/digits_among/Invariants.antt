use Rattle.std.proofs.Common.{◌≤◌}
use Rattle.saber_rows.specs.QuickRows.{AreDigits}
use Rattle.saber_rows.proofs.quick_rows.digits_among.Given as goal

abbrev pub invariant-loop-i : goal.invariant-loop-i
invariant-loop-i l = record {
  digits : l.i ≤ 18 → AreDigits l.held l.size l.i;
}
