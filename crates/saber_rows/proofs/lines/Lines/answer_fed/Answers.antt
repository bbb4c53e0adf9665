use Rattle.std.proofs.Common.{refl, arith}
use Rattle.saber_rows.specs.Reader.{reader_of}
use Rattle.saber_rows.proofs.ReaderTexts.{stopped}
use Rattle.saber_rows.proofs.FedChains.{kept_called, fed_rose, fed_stay, fed_rise}
use Rattle.saber_rows.proofs.lines.Lines.answer_fed.Goals as goal

-- ---- a reader that stopped

pub returns-in-Some-clause-call : goal.returns-in-Some-clause-call
returns-in-Some-clause-call g c = rw c.answer.ensures (kept_called c.in-Some.stop (reader_of c.args.self.now) (g.F.Feed.waiting c.args.feed.now) (g.F.Feed.mark c.args.feed.now))

pub returns-in-Some-clause-ends : goal.returns-in-Some-clause-ends
returns-in-Some-clause-ends g c goes = absurd (stopped c.args.self.now.stop c.in-Some.stop c.in-Some.is goes)

pub returns-in-Some-clause-cause : goal.returns-in-Some-clause-cause
returns-in-Some-clause-cause g c goes = absurd (stopped c.args.self.now.stop c.in-Some.stop c.in-Some.is goes)

pub returns-in-Some-clause-good : goal.returns-in-Some-clause-good
returns-in-Some-clause-good g c _ = refl

pub returns-in-Some-clause-count : goal.returns-in-Some-clause-count
returns-in-Some-clause-count g c = omega arith

pub returns-in-Some-clause-reads : goal.returns-in-Some-clause-reads
returns-in-Some-clause-reads g c _ = refl

-- ---- one that goes on

pub returns-in-None-clause-call : goal.returns-in-None-clause-call
returns-in-None-clause-call g c = c.look_fed.ensures.call

pub returns-in-None-clause-ends : goal.returns-in-None-clause-ends
returns-in-None-clause-ends g c _ = c.look_fed.ensures.ends

pub returns-in-None-clause-cause : goal.returns-in-None-clause-cause
returns-in-None-clause-cause g c _ e = fed_rose c.look_fed.result _ _ c.look_fed.ensures.faults e

pub returns-in-None-clause-good : goal.returns-in-None-clause-good
returns-in-None-clause-good g c good = fed_stay c.look_fed.result _ _ c.look_fed.ensures.faults good

pub returns-in-None-clause-count : goal.returns-in-None-clause-count
returns-in-None-clause-count g c = fed_rise c.look_fed.result _ _ c.look_fed.ensures.faults

pub returns-in-None-clause-stands : goal.returns-in-None-clause-stands
returns-in-None-clause-stands g c = c.look_fed.ensures.stands

pub returns-in-None-clause-reads : goal.returns-in-None-clause-reads
returns-in-None-clause-reads g c = c.look_fed.ensures.reads
