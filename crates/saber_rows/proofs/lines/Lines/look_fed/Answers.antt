use Rattle.std.proofs.Common.{sym, ◌∙◌, ap, subst, option_map}
use Rattle.saber_rows.specs.Reader.{reader_of, answer_of}
use Rattle.saber_rows.specs.Turns.{HasEnough}
use Rattle.saber_rows.specs.FedAnswers.{FedAnswered}
use Rattle.saber_rows.proofs.FedChains.{quick_called, ends_row}
use Rattle.saber_rows.proofs.lines.Lines.look_fed.Goals as goal

pub returns-in-Some-clause-call : goal.returns-in-Some-clause-call
returns-in-Some-clause-call g c =
    let k = c.in-Some.ensures in
    quick_called c.in-Some.row (reader_of c.args.self.now) (reader_of c.quick_row.new.self) (g.F.Feed.waiting c.args.feed.now) (g.F.Feed.mark c.args.feed.now) k.some k.given c.quick_row.ensures.rules

pub returns-in-Some-clause-ends : goal.returns-in-Some-clause-ends
returns-in-Some-clause-ends g c = ends_row c.in-Some.row (reader_of c.quick_row.new.self) _ _ (ap (option_map answer_of) (c.quick_row.ensures.stop ∙ c.requires))

pub advance_fed-requires : goal.advance_fed-requires
advance_fed-requires g c = c.quick_row.ensures.stop ∙ c.requires

pub returns-in-None-clause-call : goal.returns-in-None-clause-call
returns-in-None-clause-call g c =
    let w = g.F.Feed.waiting in
    subst (λ s. FedAnswered c.advance_fed.result (reader_of s) (reader_of c.advance_fed.new.self) (w c.args.feed.now) (w c.advance_fed.new.feed) (g.F.Feed.mark c.args.feed.now)) (c.quick_row.ensures.none c.in-None.is) c.advance_fed.ensures.call

pub returns-in-None-clause-ends : goal.returns-in-None-clause-ends
returns-in-None-clause-ends g c = c.advance_fed.ensures.ends

pub returns-in-None-clause-faults : goal.returns-in-None-clause-faults
returns-in-None-clause-faults g c = c.advance_fed.ensures.faults

pub returns-in-None-clause-stands : goal.returns-in-None-clause-stands
returns-in-None-clause-stands g c = c.advance_fed.ensures.stands

pub returns-in-None-clause-reads : goal.returns-in-None-clause-reads
returns-in-None-clause-reads g c h = c.advance_fed.ensures.reads (subst (λ s. HasEnough (reader_of s)) (sym (c.quick_row.ensures.none c.in-None.is)) h)
