use Rattle.std.proofs.Common.{◌≡◌, ◌+◌, ◌/◌, ◌∙◌, ◌++◌, ap, arith, take}
use Rattle.std.specs.Fmt.{decimal}
use Rattle.saber_digits.proofs.Short.{three_behind}
use Rattle.saber_digits.proofs.lines.put_twelve.Goals as goal

pub returns-clause-written : goal.returns-clause-written
returns-clause-written c =
    let n = c.args.number in
    let low = c.requires.small.0 in
    let high = c.requires.small.1 in
    let front = take c.args.at c.args.line.now in
    let end = c.put_six-end.result in
    let first = take 3 c.last_three.result in
    let second = take 3 c.last_three-2.result in
    let thousands : n / 1000000 ≡ n / 1000 / 1000 = omega arith in
    let six = c.put_six-end.ensures.written ∙ ap (λ m. front ++ decimal m) thousands in
    let nine : take (end + 3) c.put_four.new.line ≡ front ++ decimal (n / 1000) =
    three_behind front (take (end + 3) c.put_four.new.line) first (n / 1000) (omega (arith, low)) (omega (arith, high)) c.last_three.ensures
    (c.put_four.ensures 3 (omega arith) ∙ ap (λ l. l ++ first) six) in
    let all = three_behind front (take (end + 3 + 3) c.put_four-2.new.line) second n (omega (arith, low)) (omega (arith, high)) c.last_three-2.ensures
    (c.put_four-2.ensures 3 (omega arith) ∙ ap (λ l. l ++ second) nine) in
    let last : end + 6 ≡ end + 3 + 3 = omega arith in
    ap (λ k. take k c.put_four-2.new.line) last ∙ all
