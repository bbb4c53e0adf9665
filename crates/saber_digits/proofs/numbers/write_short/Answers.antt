use Rattle.std.proofs.Common.{◌≡◌, ◌+◌, ◌-◌, arith, rules, append-nil, to_z-of_z}
use Rattle.std.proofs.lemmas.Fmt.{length-decimal-le}
use Rattle.std.proofs.lemmas.List.{drop-set, drop_all}
use Rattle.itoa.proofs.Decimal.{minus_first}
use Rattle.saber_digits.proofs.numbers.write_short.Goals as goal

pub write_digits-start-requires : goal.write_digits-start-requires
write_digits-start-requires c = (omega (arith, length-decimal-le 19 c.unsigned_abs.result (omega arith) (omega arith) (omega arith)), search rules)

pub returns-then-number-ge0-clause-room : goal.returns-then-number-ge0-clause-room
returns-then-number-ge0-clause-room c =
    let long = length-decimal-le 19 c.unsigned_abs.result (omega arith) (omega arith) (omega arith) in
    (omega (arith, long), omega arith)

pub returns-then-number-ge0-clause-written : goal.returns-then-number-ge0-clause-written
returns-then-number-ge0-clause-written c =
    rw (c.write_digits-start.ensures.written, drop_all 24 c.args.cell.now (omega arith), append-nil) (search rules)

pub overflow_sub-cell : goal.overflow_sub-cell
overflow_sub-cell c = omega (arith, length-decimal-le 19 c.unsigned_abs.result (omega arith) (omega arith) (omega arith))

pub overflow_sub-result : goal.overflow_sub-result
overflow_sub-result c = omega (arith, length-decimal-le 19 c.unsigned_abs.result (omega arith) (omega arith) (omega arith))

pub returns-clause-room : goal.returns-clause-room
returns-clause-room c =
    let long = length-decimal-le 19 c.unsigned_abs.result (omega arith) (omega arith) (omega arith) in
    (omega (arith, long), omega (arith, long))

pub returns-clause-written : goal.returns-clause-written
returns-clause-written c =
    let w = c.write_digits-start in
    let long = length-decimal-le 19 c.unsigned_abs.result (omega arith) (omega arith) (omega arith) in
    let e : w.result - 1 + 1 ≡ w.result = omega arith in
    let back = to_z-of_z c.ranges.number in
    rw (drop-set w.new.buf (w.result - 1) 45 (omega arith), e, w.ensures.written, drop_all 24 c.args.cell.now (omega arith), append-nil, c.unsigned_abs.ensures.value, back)
    (minus_first c.args.number (rw back at c.if-number-ge0.false))
