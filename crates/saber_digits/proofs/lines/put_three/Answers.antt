use Rattle.std.proofs.Common.{◌≡◌, ◌+◌, ◌-◌, arith, take, ap, ◌∙◌, ◌++◌}
use Rattle.saber_digits.proofs.Short.{byte, short_at}
use Rattle.saber_digits.proofs.lines.put_three.Goals as goal

pub overflow_add-result : goal.overflow_add-result
overflow_add-result c =
    let s = short_at c.args.number c.requires.small in
    let is : c.from.result ≡ byte c.args.number 3 = c.from.ensures in
    let last = s.last in
    let few = s.few.1 in
    omega (arith, is, last, few)

pub overflow_sub-result : goal.overflow_sub-result
overflow_sub-result c =
    let s = short_at c.args.number c.requires.small in
    let is : c.from.result ≡ byte c.args.number 3 = c.from.ensures in
    let last = s.last in
    omega (arith, is, last)

pub returns-clause-written : goal.returns-clause-written
returns-clause-written c =
    let s = short_at c.args.number c.requires.small in
    let is : c.from.result ≡ byte c.args.number 3 = c.from.ensures in
    let last = s.last in
    let few = s.few.1 in
    let end : c.args.at + c.from.result - 48 ≡ c.args.at + s.count = omega (arith, is, last) in
    ap (λ n. take n c.put_four.new.line) end ∙ c.put_four.ensures s.count (omega (arith, few)) ∙ ap (λ l. take c.args.at c.args.line.now ++ l) s.digits

pub returns-clause-short : goal.returns-clause-short
returns-clause-short c =
    let s = short_at c.args.number c.requires.small in
    let is : c.from.result ≡ byte c.args.number 3 = c.from.ensures in
    let last = s.last in
    let few = s.few.1 in
    omega (arith, is, last, few)
