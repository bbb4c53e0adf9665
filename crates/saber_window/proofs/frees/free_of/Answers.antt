use Rattle.std.proofs.Common.{rules, deque_len, ◌≡◌, ◌+◌, ◌<◌, length, None, sym, ◌∙◌, ap, arith}
use Rattle.saber_plan.specs.Needs.{reaches}
use Rattle.saber_window.proofs.FreeSteps.{found, later, past}
use Rattle.saber_window.proofs.frees.free_of.Goals as goal

pub returns-then-reaches : goal.returns-then-reaches
returns-then-reaches c =
    let d = c.index.result.now in
    let len : deque_len c.args.lasts.now ≡ length c.args.lasts.now.items = search rules in
    let low : c.loop-i.i < length c.args.lasts.now.items = omega (arith, c.loop-i-test.true, c.len-i-end.ensures, len) in
    sym (c.loop-i.invariant ∙ found d c.args.first c.args.lasts.now.items c.args.closed c.loop-i.i low (ap (λ o. reaches o c.args.closed) (sym c.index.ensures) ∙ sym c.reaches.ensures ∙ c.if-reaches.true))

pub loop-i-preserved : goal.loop-i-preserved
loop-i-preserved c =
    let d = c.index.result.now in
    let len : deque_len c.args.lasts.now ≡ length c.args.lasts.now.items = search rules in
    let low : c.loop-i.i < length c.args.lasts.now.items = omega (arith, c.loop-i-test.true, c.len-i-end.ensures, len) in
    c.loop-i.invariant ∙ later d c.args.first c.args.lasts.now.items c.args.closed c.loop-i.i low (ap (λ o. reaches o c.args.closed) (sym c.index.ensures) ∙ sym c.reaches.ensures ∙ c.if-reaches.false)

pub returns : goal.returns
returns c =
    let len : deque_len c.args.lasts.now ≡ length c.args.lasts.now.items = search rules in
    let l = c.len.ensures in
    let k = c.loop-i.auto in
    let same : c.len.result ≡ c.loop-i.i = omega (arith, c.loop-i-test.false, c.loop-i.auto.i-end, c.len-i-end.ensures, c.len.ensures) in
    sym (c.loop-i.invariant ∙ past None c.args.first c.args.lasts.now.items c.args.closed c.loop-i.i (omega (arith, same, c.len.ensures, len)) ∙ ap (λ n. c.args.first + n) (sym same))
