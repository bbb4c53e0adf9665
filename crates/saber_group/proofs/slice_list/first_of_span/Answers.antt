use Rattle.std.proofs.Common.{None, arith}
use Rattle.saber_group.proofs.SlicesGiven.{span_at}
use Rattle.saber_group.proofs.slice_list.first_of_span.Goals as goal

pub returns-then-i-spans : goal.returns-then-i-spans
returns-then-i-spans c ps =
    let below = c.if-i-spans.true in
    span_at ps c.args.spans.now c.args.i (record { first = 0; past = 0; end = 0; part = None }) (omega (arith, below))
