use Rattle.std.proofs.Common.{sym, subst}
use Rattle.saber_rows.specs.Reader.{reader_of}
use Rattle.saber_dispatch.specs.Readings.{one, reading_of, Steps, FaultsAreReal}
use Rattle.saber_dispatch.specs.Sources.{each_input}
use Rattle.saber_dispatch.proofs.reader.Reader.next.Goals as goal

pub returns-in-One-clause-step : goal.returns-in-One-clause-step
returns-in-One-clause-step g c =
    let left = each_input g.S.Source.left in
    subst (λ r. Steps c.next_of_one.result (reading_of r) (one (reader_of c.next_of_one.new.lines)) (left c.args.inputs.now) (left c.next_of_one.new.inputs)) (sym c.in-One.is) c.next_of_one.ensures.step

pub returns-in-One-clause-cause : goal.returns-in-One-clause-cause
returns-in-One-clause-cause g c =
    let k = each_input g.S.Source.faults in
    subst (λ r. FaultsAreReal c.next_of_one.result (reading_of r) (k c.args.inputs.now) (k c.next_of_one.new.inputs)) (sym c.in-One.is) c.next_of_one.ensures.cause
