use Rattle.std.proofs.Common.{◌+◌, ◌∙◌, ◌++◌, ap, arith, take}
use Rattle.saber_digits.proofs.Short.{three_behind}
use Rattle.saber_digits.proofs.lines.put_six.Goals as goal

pub returns-clause-written : goal.returns-clause-written
returns-clause-written c =
    let low = c.if-number-lt1000.false in
    let last = take 3 c.last_three.result in
    three_behind (take c.args.at c.args.line.now) (take (c.put_three-end.result + 3) c.put_four.new.line) last c.args.number (omega (arith, low)) (omega arith) c.last_three.ensures
    (c.put_four.ensures 3 (omega arith) ∙ ap (λ l. l ++ last) c.put_three-end.ensures.written)
