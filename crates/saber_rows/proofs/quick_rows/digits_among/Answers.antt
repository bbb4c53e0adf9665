use Rattle.std.proofs.Common.{arith, ◌<◌, ◌+◌, ◌%◌, ◌^◌, get_or, ap}
use Rattle.saber_rows.proofs.QuickNumbers.{digit_more}
use Rattle.saber_rows.proofs.quick_rows.digits_among.Goals as goal

pub loop-i-preserved : goal.loop-i-preserved
loop-i-preserved c = record {
  digits = λ few.
      let byte : get_or c.args.held.now c.loop-i.i 0 < 256 = omega (arith, c.type_inv.held c.loop-i.i) in
      digit_more c.args.held.now c.loop-i.i c.loop-i.size ((c.from-digit.result + 18446744073709551568) % 2 ^ 64) (c.loop-i.invariant.digits (omega (arith, few))) c.loop-i-test.true (omega (arith, few))
      byte (ap (λ b. (b + 18446744073709551568) % 2 ^ 64) c.from-digit.ensures) c.if-digit-gt9.false;
}
