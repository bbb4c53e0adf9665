use Rattle.std.proofs.Common.{◌≡◌, ◌++◌, drop}
use Rattle.saber_join.proofs.back.rest_of.Given as goal

abbrev pub invariant-loop-i : goal.invariant-loop-i
invariant-loop-i l = record {
  rest : l.rest ++ drop l.i l.rows ≡ drop l.from l.rows;
}
