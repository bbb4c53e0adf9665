use Rattle.std.proofs.Common.{arith, ◌≤◌, inl, refl, sym, ◌∙◌, ap, subst, option_map}
use Rattle.saber_plan.specs.Rows.{before}
use Rattle.saber_rows.specs.Reader.{reader_of, gone_count, answer_of}
use Rattle.saber_rows.specs.Calls.{AnswerFaults}
use Rattle.saber_rows.specs.Turns.{same}
use Rattle.saber_rows.proofs.Chains.{chain, reads_no_more, stopped_moves, stopped_ends, kept_stop, last_stop, no_row, stands}
use Rattle.saber_rows.proofs.TakenRows.{given_since}
use Rattle.saber_rows.proofs.lines.Lines.advance.Goals as goal

pub loop-row-init : goal.loop-row-init
loop-row-init g c = record {
  moves = stands (reader_of c.args.self.now) (g.S.Source.left c.args.source.now);
  stop = c.requires;
  faults = refl;
  rules = refl;
  last = refl;
  rises = omega arith;
  once = inl refl;
  reads = λ h. (refl, h);
}

pub loop-row-preserved : goal.loop-row-preserved
loop-row-preserved g c =
    let inv = c.loop-row.invariant in
    let turn = c.in-Again.ensures.turns in
    let asks = c.in-Again.ensures.asks in
    record {
      moves = chain _ _ _ _ _ _ inv.moves same turn.gives;
      stop = c.turn.ensures.stop ∙ inv.stop;
      faults = c.in-Again.ensures.faults ∙ inv.faults;
      rules = turn.rules ∙ inv.rules;
      last = turn.place.0 ∙ inv.last;
      rises = omega (arith, inv.rises, turn.place.1);
      once = reads_no_more g.S.Source.left (reader_of c.args.self.now) (reader_of c.loop-row.self) c.args.source.now c.loop-row.source c.turn.new.source inv.moves inv.once asks.once;
      reads = λ h. let k = inv.reads h in let e = asks.enough k.1 in (e.0 ∙ k.0, e.1);
    }

pub returns-in-Row-clause-moves : goal.returns-in-Row-clause-moves
returns-in-Row-clause-moves g c = chain _ _ _ _ _ _ c.loop-row.invariant.moves (before c.in-Row.row) c.in-Row.ensures.turns.gives

pub returns-in-Row-clause-given : goal.returns-in-Row-clause-given
returns-in-Row-clause-given g c = given_since c.in-Row.row _ _ _ c.loop-row.invariant.rules c.loop-row.invariant.last c.loop-row.invariant.rises c.in-Row.ensures.turns.place

pub returns-in-Row-clause-place : goal.returns-in-Row-clause-place
returns-in-Row-clause-place g c =
    let inv = c.loop-row.invariant in
    let turn = c.in-Row.ensures.turns in
    record {
      rules = turn.rules ∙ inv.rules;
      last = turn.place.last;
      answer = ap (option_map answer_of) (c.turn.ensures.stop ∙ inv.stop);
      stays = omega (arith, inv.rises, turn.place.rises);
    }

pub returns-in-Row-clause-faults : goal.returns-in-Row-clause-faults
returns-in-Row-clause-faults g c = c.in-Row.ensures.faults ∙ c.loop-row.invariant.faults

pub returns-in-Row-clause-once : goal.returns-in-Row-clause-once
returns-in-Row-clause-once g c = reads_no_more g.S.Source.left (reader_of c.args.self.now) (reader_of c.loop-row.self) c.args.source.now c.loop-row.source c.turn.new.source c.loop-row.invariant.moves c.loop-row.invariant.once c.in-Row.ensures.asks.once

pub returns-in-Row-clause-reads : goal.returns-in-Row-clause-reads
returns-in-Row-clause-reads g c h = let k = c.loop-row.invariant.reads h in (c.in-Row.ensures.asks.enough k.1).0 ∙ k.0

pub returns-in-Stop-clause-moves : goal.returns-in-Stop-clause-moves
returns-in-Stop-clause-moves g c =
    let gives = c.in-Stop.ensures.turns.gives in
    rw c.answer.ensures (stopped_moves c.in-Stop.stop _ _ (reader_of c.turn.new.self) _ _ _ c.loop-row.invariant.moves gives.0 gives.1)

pub returns-in-Stop-clause-ends : goal.returns-in-Stop-clause-ends
returns-in-Stop-clause-ends g c =
    let gives = c.in-Stop.ensures.turns.gives in
    rw c.answer.ensures (stopped_ends c.in-Stop.stop _ (reader_of c.turn.new.self) gives.0 gives.2)

pub returns-in-Stop-clause-place : goal.returns-in-Stop-clause-place
returns-in-Stop-clause-place g c =
    let inv = c.loop-row.invariant in
    let turn = c.in-Stop.ensures.turns in
    let same = turn.gives.0 in
    rw c.answer.ensures (record {
      rules = turn.rules ∙ inv.rules;
      last = ap (λ r. r.last) same ∙ inv.last ∙ last_stop c.in-Stop.stop _;
      answer = kept_stop c.in-Stop.stop;
      stays = subst (λ n. gone_count (reader_of c.args.self.now) ≤ n) (ap gone_count (sym same)) inv.rises;
    })

pub returns-in-Stop-clause-given : goal.returns-in-Stop-clause-given
returns-in-Stop-clause-given g c = rw c.answer.ensures (no_row c.in-Stop.stop _)

pub returns-in-Stop-clause-faults : goal.returns-in-Stop-clause-faults
returns-in-Stop-clause-faults g c =
    rw c.answer.ensures (subst (λ n. AnswerFaults (answer_of c.in-Stop.stop) n (g.S.Source.faults c.turn.new.source)) c.loop-row.invariant.faults c.in-Stop.ensures.faults)

pub returns-in-Stop-clause-once : goal.returns-in-Stop-clause-once
returns-in-Stop-clause-once g c = reads_no_more g.S.Source.left (reader_of c.args.self.now) (reader_of c.loop-row.self) c.args.source.now c.loop-row.source c.turn.new.source c.loop-row.invariant.moves c.loop-row.invariant.once c.in-Stop.ensures.asks.once

pub returns-in-Stop-clause-reads : goal.returns-in-Stop-clause-reads
returns-in-Stop-clause-reads g c h = let k = c.loop-row.invariant.reads h in (c.in-Stop.ensures.asks.enough k.1).0 ∙ k.0
