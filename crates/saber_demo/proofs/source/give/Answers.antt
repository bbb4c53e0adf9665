use Rattle.std.proofs.Common.{◌≡◌, ◌+◌, ◌-◌, drop, take, length, arith, ap, ◌∙◌}
use Rattle.std.proofs.lemmas.List.{take_at, length-take}
use Rattle.saber_demo.proofs.Sources.{part_and_rest}
use Rattle.saber_demo.proofs.source.give.Goals as goal

pub returns-clause-given : goal.returns-clause-given
returns-clause-given c =
    let n = c.min-size.result in
    let got = c.copy_from_slice.new.self in
    let whole : c.args.at + n - c.args.at ≡ n = omega arith in
    let is : got ≡ take n (drop c.args.at c.args.bytes.now) = c.copy_from_slice.ensures.after ∙ ap (λ k. take k (drop c.args.at c.args.bytes.now)) whole in
    let size : length got ≡ n = omega (arith, c.copy_from_slice.ensures.len, length-take n c.args.buf.now) in
    rw (take_at got (drop n c.args.buf.now) n size) (part_and_rest n c.args.at c.args.bytes.now got is)
