use Rattle.std.proofs.Common.{◌≡◌, ◌-◌, ◌+◌, length, ◌∙◌, ap, arith}
use Rattle.saber_plan.specs.Parts.{Part}
use Rattle.saber_sliding.proofs.Stacked.{length-sums_from, next_can, next_more, sums_begin, sums_from}
use Rattle.saber_sliding.proofs.stack.sum_up.Goals as goal

pub loop-i-init : goal.loop-i-init
loop-i-init g c =
    let now = c.len-i.ensures in
    record {
      summed = sums_begin (c.len-i.result - 1) c.args.parts.now (omega (arith, now));
      long = omega (arith, now);
      steps = omega (arith, now);
    }

pub join_next-requires-clause-there : goal.join_next-requires-clause-there
join_next-requires-clause-there g c =
    let more = c.loop-i-test.true in
    let long = c.loop-i.invariant.long in
    let left = ap (length {A = Part}) c.loop-i.invariant.summed ∙ length-sums_from (c.loop-i.i - 1) c.args.parts.now in
    omega (arith, more, long, left)

pub join_next-requires-clause-can : goal.join_next-requires-clause-can
join_next-requires-clause-can g c =
    let i = c.loop-i.i in
    let more = c.loop-i-test.true in
    let long = c.loop-i.invariant.long in
    next_can (i - 1 - 1) (i - 1) (i - 1 - 1 + 1) c.args.parts.now c.loop-i.parts (omega (arith, more)) (omega arith) (omega (arith, more, long)) c.loop-i.invariant.summed c.requires

pub loop-i-preserved : goal.loop-i-preserved
loop-i-preserved g c =
    let i = c.loop-i.i in
    let more = c.loop-i-test.true in
    let long = c.loop-i.invariant.long in
    let used = c.loop-i.invariant.steps in
    let step = c.join_next.ensures.steps in
    record {
      summed = next_more (i - 1 - 1) (i - 1) (i - 1 - 1 + 1) c.args.parts.now c.loop-i.parts c.join_next.new.self (omega (arith, more)) (omega arith) (omega (arith, more, long))
          c.loop-i.invariant.summed c.join_next.ensures.joined;
      long = omega (arith, long);
      steps = omega (arith, more, used, step);
    }

pub returns-clause-all : goal.returns-clause-all
returns-clause-all g c =
    let none = c.loop-i-test.false in
    let first : c.loop-i.i - 1 ≡ 0 = omega (arith, none) in
    c.loop-i.invariant.summed ∙ ap (λ n. sums_from n c.args.parts.now) first

pub returns-clause-steps : goal.returns-clause-steps
returns-clause-steps g c =
    let used = c.loop-i.invariant.steps in
    omega (arith, used)
