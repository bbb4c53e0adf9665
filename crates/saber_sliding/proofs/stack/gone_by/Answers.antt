use Rattle.std.proofs.Common.{◌≡◌, ◌+◌, drop, arith}
use Rattle.saber_sliding.specs.Stacks.{gone_by}
use Rattle.saber_sliding.proofs.Stacked.{gone_end, gone_more, gone_none}
use Rattle.saber_sliding.proofs.stack.gone_by.Goals as goal

pub loop-gone-init : goal.loop-gone-init
loop-gone-init c = omega arith

pub returns-then-numbers-gone : goal.returns-then-numbers-gone
returns-then-numbers-gone c =
    let ns = c.args.numbers.now in
    let g = c.loop-gone.gone in
    let so_far : gone_by c.args.i ns ≡ g + gone_by c.args.i (drop g ns) = c.loop-gone.invariant in
    let none = gone_none c.args.i g ns c.loop-gone-test.true c.if-numbers-gone.true in
    record { count = omega (arith, so_far, none) }

pub loop-gone-preserved : goal.loop-gone-preserved
loop-gone-preserved c =
    let ns = c.args.numbers.now in
    let g = c.loop-gone.gone in
    let so_far : gone_by c.args.i ns ≡ g + gone_by c.args.i (drop g ns) = c.loop-gone.invariant in
    let more = gone_more c.args.i g (g + 1) ns (omega arith) c.loop-gone-test.true c.if-numbers-gone.false in
    omega (arith, so_far, more)

pub returns : goal.returns
returns c =
    let ns = c.args.numbers.now in
    let g = c.loop-gone.gone in
    let so_far : gone_by c.args.i ns ≡ g + gone_by c.args.i (drop g ns) = c.loop-gone.invariant in
    let past = c.loop-gone-test.false in
    let most = c.loop-gone.auto.gone-end in
    let none = gone_end c.args.i g ns (omega (arith, past)) in
    record { count = omega (arith, so_far, past, most, none) }
