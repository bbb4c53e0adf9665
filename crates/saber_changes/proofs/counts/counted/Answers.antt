use Rattle.std.proofs.lemmas.Grind.{common_steps}
use Rattle.std.proofs.Common.{◌<◌, ◌^◌, ◌+◌, length, drop, sym, ◌∙◌, ap, arith}
use Rattle.saber_changes.specs.Counts.{times, counts_of, tally}
use Rattle.saber_changes.proofs.Cancelling.{few_here, next_line}
use Rattle.saber_changes.proofs.Tallied.{none_counted, counted_on}
use Rattle.saber_changes.proofs.counts.counted.Goals as goal

pub loop-i-init : goal.loop-i-init
loop-i-init c k = let none = none_counted k c.new-counts.result.entries c.new-counts.ensures.empty in omega (arith, none)

pub count-requires : goal.count-requires
count-requires c =
    let x = c.line.result.now in
    let ls = c.args.answers.now in
    let i = c.loop-i.i in
    let long = c.len-i-end.ensures in
    let test = c.loop-i-test.true in
    let there : i < length ls = omega (arith, long, test) in
    let next = next_line ls i x there (c.line.ensures x) in
    let all = few_here x ls (drop i ls) (drop (i + 1) ls) (tally (counts_of c.loop-i.counts.entries)) next (c.loop-i.invariant x) in
    let short : length ls < 2 ^ 64 = grind (arith, common_steps) in
    omega (arith, all, short)

pub loop-i-preserved : goal.loop-i-preserved
loop-i-preserved c k =
    let x = c.line.result.now in
    let ls = c.args.answers.now in
    let i = c.loop-i.i in
    let long = c.len-i-end.ensures in
    let test = c.loop-i-test.true in
    let next = next_line ls i x (omega (arith, long, test)) (c.line.ensures x) in
    counted_on (tally (counts_of c.loop-i.counts.entries)) (tally (counts_of c.count.new.counts.entries)) x (drop (i + 1) ls) (times k ls) k (c.in_ok-count.ensures k) (ap (λ l. tally (counts_of c.loop-i.counts.entries) k + times k l) (sym next) ∙ c.loop-i.invariant k)
