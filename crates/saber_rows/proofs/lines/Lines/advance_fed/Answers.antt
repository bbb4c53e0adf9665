use Rattle.std.proofs.Common.{refl, ◌∙◌, ap, subst, option_map}
use Rattle.saber_rows.specs.Calls.{AnswerFaults}
use Rattle.saber_rows.specs.Reader.{reader_of, answer_of}
use Rattle.saber_rows.specs.declared.lines.Turn.{Turn}
use Rattle.saber_rows.specs.Turns.{IfAgain, HasEnough, TurnFaults}
use Rattle.saber_rows.proofs.FedChains.{fed_stands, ran_on, ran_row, ran_stop, ends_row, ends_stop}
use Rattle.saber_rows.proofs.lines.Lines.advance_fed.Goals as goal

pub loop-turn-init : goal.loop-turn-init
loop-turn-init g c = record {
  ran = fed_stands (reader_of c.args.self.now) (g.F.Feed.waiting c.args.feed.now) (g.F.Feed.mark c.args.feed.now);
  stop = c.requires;
  good = refl;
  taken = refl;
  mark = refl;
  reads = λ h. (refl, h);
}

pub loop-turn-preserved : goal.loop-turn-preserved
loop-turn-preserved g c =
    let f = g.F.Feed.faults in
    let n = c.turn_fed.new in
    let inv = c.loop-turn.invariant in
    let good = subst (λ (t : Turn). TurnFaults t (f c.loop-turn.feed) (f n.feed)) c.in-Again.is c.in-Some.ensures.faults in
    record {
      ran = ran_on _ _ _ _ _ _ _ _ inv.ran inv.mark c.in-Some.turn c.in-Again.is c.in-Some.ensures.turns;
      stop = c.turn_fed.ensures.stop ∙ inv.stop;
      good = good ∙ inv.good;
      taken = c.turn_fed.ensures.stands.0 ∙ inv.taken;
      mark = c.turn_fed.ensures.stands.1 ∙ inv.mark;
      reads = λ h.
          let k = inv.reads h in
          (c.turn_fed.ensures.reads k.1 ∙ k.0, subst (λ (t : Turn). IfAgain t (HasEnough (reader_of n.self))) c.in-Again.is (c.in-Some.ensures.enough k.1));
    }

pub returns-in-Row-clause-call : goal.returns-in-Row-clause-call
returns-in-Row-clause-call g c = ran_row _ _ _ _ _ _ _ _ c.loop-turn.invariant.ran c.loop-turn.invariant.mark c.in-Some.turn c.in-Row.row c.in-Row.is c.in-Some.ensures.turns

pub returns-in-Row-clause-ends : goal.returns-in-Row-clause-ends
returns-in-Row-clause-ends g c = ends_row c.in-Row.row (reader_of c.turn_fed.new.self) _ _ (ap (option_map answer_of) (c.turn_fed.ensures.stop ∙ c.loop-turn.invariant.stop))

pub returns-in-Row-clause-faults : goal.returns-in-Row-clause-faults
returns-in-Row-clause-faults g c =
    let f = g.F.Feed.faults in
    subst (λ (t : Turn). TurnFaults t (f c.loop-turn.feed) (f c.turn_fed.new.feed)) c.in-Row.is c.in-Some.ensures.faults ∙ c.loop-turn.invariant.good

pub returns-in-Stop-clause-call : goal.returns-in-Stop-clause-call
returns-in-Stop-clause-call g c = rw c.answer.ensures (ran_stop _ _ (reader_of c.turn_fed.new.self) _ _ _ _ _ c.loop-turn.invariant.ran c.loop-turn.invariant.mark c.in-Some.turn c.in-Stop.why c.in-Stop.is c.in-Some.ensures.turns)

pub returns-in-Stop-clause-ends : goal.returns-in-Stop-clause-ends
returns-in-Stop-clause-ends g c =
    rw c.answer.ensures (ends_stop c.in-Some.turn c.in-Stop.why (reader_of c.loop-turn.self) (reader_of c.turn_fed.new.self) _ _ _ _ c.loop-turn.invariant.mark c.in-Stop.is c.in-Some.ensures.turns)

pub returns-in-Stop-clause-faults : goal.returns-in-Stop-clause-faults
returns-in-Stop-clause-faults g c =
    let f = g.F.Feed.faults in
    let told = subst (λ (t : Turn). TurnFaults t (f c.loop-turn.feed) (f c.turn_fed.new.feed)) c.in-Stop.is c.in-Some.ensures.faults in
    rw c.answer.ensures (subst (λ n. AnswerFaults (answer_of c.in-Stop.why) n (f c.turn_fed.new.feed)) c.loop-turn.invariant.good told)
