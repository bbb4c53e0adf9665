use Rattle.std.proofs.Common.{◌≡◌, take}
use Rattle.saber_rows.proofs.heads.put_numbers.Given as goal

abbrev pub invariant-loop-i : goal.invariant-loop-i
invariant-loop-i l = record {
  rows : l.out.rows ≡ l.fn.out.rows;
  begun : l.out.begun ≡ take l.i l.numbers;
}
