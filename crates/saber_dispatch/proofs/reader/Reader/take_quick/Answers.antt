use Rattle.std.proofs.Common.{sym, subst}
use Rattle.saber_rows.specs.Reader.{reader_of}
use Rattle.saber_rows.specs.Merging.{merger_of}
use Rattle.saber_dispatch.specs.Readings.{one, two, reading_of}
use Rattle.saber_dispatch.specs.Filling.{TakesOn}
use Rattle.saber_dispatch.proofs.reader.Reader.take_quick.Goals as goal

pub returns-in-One-clause-takes : goal.returns-in-One-clause-takes
returns-in-One-clause-takes c =
    let t = c.take_of_one in
    subst (λ r. TakesOn t.result c.args.mark.now t.new.mark (reading_of r) (one (reader_of t.new.lines)) c.args.out.now.rows t.new.out.rows) (sym c.in-One.is) t.ensures.takes

pub returns-in-Two-clause-takes : goal.returns-in-Two-clause-takes
returns-in-Two-clause-takes c =
    let t = c.take_of_two in
    subst (λ r. TakesOn t.result c.args.mark.now t.new.mark (reading_of r) (two (merger_of t.new.merge)) c.args.out.now.rows t.new.out.rows) (sym c.in-Two.is) t.ensures.takes
