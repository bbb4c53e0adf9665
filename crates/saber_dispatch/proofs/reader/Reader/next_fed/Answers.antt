use Rattle.std.proofs.Common.{sym, subst}
use Rattle.saber_rows.specs.Reader.{reader_of}
use Rattle.saber_dispatch.specs.Readings.{one, reading_of}
use Rattle.saber_dispatch.specs.FedReadings.{only, FedSteps}
use Rattle.saber_dispatch.proofs.reader.Reader.next_fed.Goals as goal

pub returns-clause-step : goal.returns-clause-step
returns-clause-step g c =
    let w = g.F.Feed.waiting in
    subst (λ r. FedSteps c.next_of_feed.result (reading_of r) (one (reader_of c.next_of_feed.new.lines)) (only (w c.args.feed.now)) (only (w c.next_of_feed.new.feed))) (sym c.in-One.is) c.next_of_feed.ensures.step
