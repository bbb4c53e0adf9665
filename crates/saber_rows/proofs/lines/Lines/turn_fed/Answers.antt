use Rattle.std.proofs.Common.{refl, sym, ◌∙◌, subst, IfSome, IfNone}
use Rattle.saber_rows.specs.Reader.{reader_of}
use Rattle.saber_rows.specs.FedSteps.{StaysDry}
use Rattle.saber_rows.specs.FedAnswers.{FedTurned}
use Rattle.saber_rows.specs.Turns.{IsDrained}
use Rattle.saber_rows.proofs.Chains.{drained_needs, held_faults}
use Rattle.saber_rows.proofs.FedChains.{held_fed}
use Rattle.saber_rows.proofs.lines.Lines.turn_fed.Goals as goal

-- ---- by what is held

pub returns-in-Some-clause-turns : goal.returns-in-Some-clause-turns
returns-in-Some-clause-turns g c = held_fed c.in-Some.turn (reader_of c.args.self.now) (reader_of c.turn_held.new.self) (g.F.Feed.waiting c.args.feed.now) (g.F.Feed.mark c.args.feed.now) c.in-Some.ensures.turns

pub returns-in-Some-clause-faults : goal.returns-in-Some-clause-faults
returns-in-Some-clause-faults g c = held_faults c.in-Some.turn (reader_of c.args.self.now) (reader_of c.turn_held.new.self) (g.F.Feed.faults c.args.feed.now) c.in-Some.ensures.turns

pub returns-in-Some-clause-reads : goal.returns-in-Some-clause-reads
returns-in-Some-clause-reads g c _ = refl

pub returns-in-Some-clause-enough : goal.returns-in-Some-clause-enough
returns-in-Some-clause-enough g c = c.in-Some.ensures.turns.enough

-- ---- by the feed

pub fill_fed-requires : goal.fill_fed-requires
fill_fed-requires g c = let none = c.turn_held.ensures.none c.in-None.is in record { drained = subst (λ s. IsDrained (reader_of s)) (sym none.0) none.1 }

pub returns-in-None-clause-turns : goal.returns-in-None-clause-turns
returns-in-None-clause-turns g c =
    subst (λ s. IfSome c.fill_fed.result (λ t. FedTurned t (reader_of s) (reader_of c.fill_fed.new.self) (g.F.Feed.waiting c.args.feed.now) (g.F.Feed.waiting c.fill_fed.new.feed) (g.F.Feed.mark c.args.feed.now))) (c.turn_held.ensures.none c.in-None.is).0 c.fill_fed.ensures.turns

pub returns-in-None-clause-dry : goal.returns-in-None-clause-dry
returns-in-None-clause-dry g c = subst (λ s. IfNone c.fill_fed.result (StaysDry (reader_of s) (reader_of c.fill_fed.new.self) (g.F.Feed.waiting c.args.feed.now) (g.F.Feed.waiting c.fill_fed.new.feed) (g.F.Feed.mark c.args.feed.now))) (c.turn_held.ensures.none c.in-None.is).0 c.fill_fed.ensures.dry

pub returns-in-None-clause-faults : goal.returns-in-None-clause-faults
returns-in-None-clause-faults g c = c.fill_fed.ensures.faults

pub returns-in-None-clause-calm : goal.returns-in-None-clause-calm
returns-in-None-clause-calm g c = c.fill_fed.ensures.calm

pub returns-in-None-clause-stop : goal.returns-in-None-clause-stop
returns-in-None-clause-stop g c = c.fill_fed.ensures.stop ∙ c.turn_held.ensures.stop

pub returns-in-None-clause-stands : goal.returns-in-None-clause-stands
returns-in-None-clause-stands g c = c.fill_fed.ensures.stands

pub returns-in-None-clause-reads : goal.returns-in-None-clause-reads
returns-in-None-clause-reads g c h = absurd (h (drained_needs (reader_of c.args.self.now) (c.turn_held.ensures.none c.in-None.is).1))

pub returns-in-None-clause-enough : goal.returns-in-None-clause-enough
returns-in-None-clause-enough g c h = absurd (h (drained_needs (reader_of c.args.self.now) (c.turn_held.ensures.none c.in-None.is).1))
