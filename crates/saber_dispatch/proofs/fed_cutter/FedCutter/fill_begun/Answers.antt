use Rattle.std.proofs.Common.{Ok, Err, inr, sym, ◌∙◌, ap, subst}
use Rattle.saber_dispatch.specs.declared.fed_fill.Progress.{Progress}
use Rattle.saber_dispatch.specs.declared.fed_cutter.Step.{Step}
use Rattle.saber_dispatch.specs.Readings.{reading_of}
use Rattle.saber_dispatch.specs.FedReadings.{only, IsSeen, EndTold, NothingWaits}
use Rattle.saber_dispatch.specs.FedFilling.{FillsFed, IsShortOf, ProgressTold}
use Rattle.saber_dispatch.specs.Feeding.{StepTo, step_of}
use Rattle.saber_dispatch.proofs.FedBlocks.{closes, is_dry, agrees_closed, told_full, told_ended, cut_step}
use Rattle.saber_dispatch.proofs.fed_cutter.FedCutter.fill_begun.Goals as goal

pub fill_fed-requires-clause-filling : goal.fill_fed-requires-clause-filling
fill_fed-requires-clause-filling g c = let (q, s, r, b) = c.requires.begins in (q, c.args.begun.before, reading_of b.start.reader, only b.there, b.filling)

pub close-requires : goal.close-requires
close-requires g c =
    let (q, s, r, b) = c.requires.begins in
    let w = g.F.Feed.waiting in
    let a = c.args.self.now.cutter in
    let new = c.fill_fed.new in
    let f = subst (λ (p : Progress). FillsFed p q a.size c.args.begun.before new.mark (reading_of b.start.reader) (reading_of new.reader) (only b.there) (only (w new.feed)) new.rows) c.in-Full.is
    (c.fill_fed.ensures.fills q c.args.begun.before (reading_of b.start.reader) (only b.there) b.filling) in (
      q,
      s,
      only (g.F.Feed.taken c.args.feed.now),
      only (w new.feed),
      r,
      closes q s (g.F.Feed.taken c.args.feed.now) (w c.args.feed.now) (w new.feed) a r c.args.begun.before c.args.begun.rows b new.reader new.mark new.rows (Ok tt) f,
    )

pub close-requires-in-Ended : goal.close-requires-in-Ended
close-requires-in-Ended g c =
    let (q, s, r, b) = c.requires.begins in
    let w = g.F.Feed.waiting in
    let a = c.args.self.now.cutter in
    let new = c.fill_fed.new in
    let f = subst (λ (p : Progress). FillsFed p q a.size c.args.begun.before new.mark (reading_of b.start.reader) (reading_of new.reader) (only b.there) (only (w new.feed)) new.rows) c.in-Ended.is
    (c.fill_fed.ensures.fills q c.args.begun.before (reading_of b.start.reader) (only b.there) b.filling) in (
      q,
      s,
      only (g.F.Feed.taken c.args.feed.now),
      only (w new.feed),
      r,
      closes q s (g.F.Feed.taken c.args.feed.now) (w c.args.feed.now) (w new.feed) a r c.args.begun.before c.args.begun.rows b new.reader new.mark new.rows (Err c.in-Ended.end) f,
    )

pub returns-in-Full-clause-cuts : goal.returns-in-Full-clause-cuts
returns-in-Full-clause-cuts g c q s r b =
    let w = g.F.Feed.waiting in
    let taken = g.F.Feed.taken c.args.feed.now in
    let mark = g.F.Feed.mark c.args.feed.now in
    let a = c.args.self.now.cutter in
    let new = c.fill_fed.new in
    let f = subst (λ (p : Progress). FillsFed p q a.size c.args.begun.before new.mark (reading_of b.start.reader) (reading_of new.reader) (only b.there) (only (w new.feed)) new.rows) c.in-Full.is
    (c.fill_fed.ensures.fills q c.args.begun.before (reading_of b.start.reader) (only b.there) b.filling) in
    let k = closes q s taken (w c.args.feed.now) (w new.feed) a r c.args.begun.before c.args.begun.rows b new.reader new.mark new.rows (Ok tt) f in
    let seen = subst (IsSeen (reading_of new.reader)) c.fill_fed.ensures.stands.1 c.fill_fed.ensures.seen in
    let agrees = agrees_closed (Ok tt) (record a { reader = new.reader; mark = new.mark }) c.close.new.self (w new.feed) mark (told_full (w new.feed) mark) c.close.ensures.closed seen in
    subst (λ (x : Step). StepTo x q s taken (w new.feed) mark (record { cutter = c.close.new.self; begun = c.args.self.now.begun }) r) (sym c.step_of.ensures)
    (cut_step c.close.result q s taken (w new.feed) mark c.close.new.self r c.args.self.now.begun c.requires.none (c.close.ensures.cuts q s (only taken) (only (w new.feed)) r k) agrees)

pub returns-in-Ended-clause-cuts : goal.returns-in-Ended-clause-cuts
returns-in-Ended-clause-cuts g c q s r b =
    let w = g.F.Feed.waiting in
    let taken = g.F.Feed.taken c.args.feed.now in
    let mark = g.F.Feed.mark c.args.feed.now in
    let a = c.args.self.now.cutter in
    let new = c.fill_fed.new in
    let end = c.in-Ended.end in
    let f = subst (λ (p : Progress). FillsFed p q a.size c.args.begun.before new.mark (reading_of b.start.reader) (reading_of new.reader) (only b.there) (only (w new.feed)) new.rows) c.in-Ended.is
    (c.fill_fed.ensures.fills q c.args.begun.before (reading_of b.start.reader) (only b.there) b.filling) in
    let k = closes q s taken (w c.args.feed.now) (w new.feed) a r c.args.begun.before c.args.begun.rows b new.reader new.mark new.rows (Err end) f in
    let seen = subst (IsSeen (reading_of new.reader)) c.fill_fed.ensures.stands.1 c.fill_fed.ensures.seen in
    let told = subst (λ m. EndTold end (w new.feed) m) c.fill_fed.ensures.stands.1 (subst (λ (p : Progress). ProgressTold p (w new.feed) (g.F.Feed.mark new.feed)) c.in-Ended.is c.fill_fed.ensures.told) in
    let agrees = agrees_closed (Err end) (record a { reader = new.reader; mark = new.mark }) c.close-in-Ended.new.self (w new.feed) mark (told_ended end (w new.feed) mark told) c.close-in-Ended.ensures.closed seen in
    subst (λ (x : Step). StepTo x q s taken (w new.feed) mark (record { cutter = c.close-in-Ended.new.self; begun = c.args.self.now.begun }) r) (sym c.step_of-in-Ended.ensures)
    (cut_step c.close-in-Ended.result q s taken (w new.feed) mark c.close-in-Ended.new.self r c.args.self.now.begun c.requires.none (c.close-in-Ended.ensures.cuts q s (only taken) (only (w new.feed)) r k) agrees)

pub returns-in-Dry-clause-cuts : goal.returns-in-Dry-clause-cuts
returns-in-Dry-clause-cuts g c q s r b =
    let w = g.F.Feed.waiting in
    let taken = g.F.Feed.taken c.args.feed.now in
    let mark = g.F.Feed.mark c.args.feed.now in
    let a = c.args.self.now.cutter in
    let new = c.fill_fed.new in
    let p = subst (λ (p : Progress). FillsFed p q a.size c.args.begun.before new.mark (reading_of b.start.reader) (reading_of new.reader) (only b.there) (only (w new.feed)) new.rows) c.in-Dry.is
    (c.fill_fed.ensures.fills q c.args.begun.before (reading_of b.start.reader) (only b.there) b.filling) in
    let seen = subst (IsSeen (reading_of new.reader)) c.fill_fed.ensures.stands.1 c.fill_fed.ensures.seen in
    let nothing = subst (NothingWaits (w new.feed)) c.fill_fed.ensures.stands.1 (subst (λ (p : Progress). ProgressTold p (w new.feed) (g.F.Feed.mark new.feed)) c.in-Dry.is c.fill_fed.ensures.told) in
    is_dry q s taken (w c.args.feed.now) (w new.feed) a r c.args.begun.before c.args.begun.rows b new.reader new.mark new.rows mark p nothing seen

pub returns-in-Full-clause-short : goal.returns-in-Full-clause-short
returns-in-Full-clause-short g c h = absurd (subst IsShortOf c.in-Full.is (c.fill_fed.ensures.short h))

pub returns-in-Ended-clause-short : goal.returns-in-Ended-clause-short
returns-in-Ended-clause-short g c h =
    let lack = subst IsShortOf c.in-Ended.is (c.fill_fed.ensures.short h) in
    inr (c.step_of-in-Ended.ensures ∙ ap step_of (c.close-in-Ended.ensures.lack (ap (λ x. Err x) lack)))
