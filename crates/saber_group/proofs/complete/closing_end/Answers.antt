use Rattle.std.proofs.Common.{sym, arith}
use Rattle.saber_group.proofs.SlicesGiven.{first_is, firsts_more, not_none, not_past}
use Rattle.saber_group.proofs.complete.closing_end.Goals as goal

pub loop-at-preserved : goal.loop-at-preserved
loop-at-preserved c =
    let more = c.if-low-first.false in
    firsts_more c.args.low c.args.slices.now c.loop-at.at c.in-Some.first (sym c.in-Some.ensures) (omega (arith, more)) c.loop-at.invariant

pub returns-then-low-first-clause-behind : goal.returns-then-low-first-clause-behind
returns-then-low-first-clause-behind c r there =
    let same = first_is c.args.slices.now c.loop-at.at c.in-Some.first r (sym c.in-Some.ensures) there in
    let least = c.if-low-first.true in
    omega (arith, same, least)

pub returns-in-None-clause-behind : goal.returns-in-None-clause-behind
returns-in-None-clause-behind c r there = absurd (not_none c.args.slices.now c.loop-at.at r (sym c.in-None.ensures) there)

pub returns-clause-behind : goal.returns-clause-behind
returns-clause-behind c r there =
    let long = c.len-count.ensures in
    absurd (not_past c.args.slices.now c.len-count.result r there (omega (arith, long)))
