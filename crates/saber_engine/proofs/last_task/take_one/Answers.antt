use Rattle.std.proofs.Common.{◌≡◌, sym, ◌∙◌, rules}
use Rattle.std.specs.Prelude.{None}
use Rattle.saber_engine.proofs.LastTakes.{kept_none, kept_other, kept_stopped, can_do, taken_so}
use Rattle.saber_engine.proofs.last_task.take_one.Goals as goal

pub returns-in_default : goal.returns-in_default
returns-in_default g c =
    let none : c.args.block.now ≡ None = search rules in
    record { takes = kept_none g.O.Operator.plan g.O.Operator.contents g.O.Operator.has_taken g.K.Sink.written g.K.Sink.faults g.K.Sink.writes c.args.counts c.args.operator.now c.args.member.now.stage c.args.block.now none }

pub returns-then-not-counts : goal.returns-then-not-counts
returns-then-not-counts g c =
    record { takes = kept_other g.O.Operator.plan g.O.Operator.contents g.O.Operator.has_taken g.K.Sink.written g.K.Sink.faults g.K.Sink.writes c.args.counts c.args.operator.now c.args.member.now.stage c.args.block.now c.in-Some.block c.in-Some.is c.if-not-counts.true }

pub do_task-goes-requires : goal.do_task-goes-requires
do_task-goes-requires g c =
    record { can = can_do g.O.Operator.plan g.O.Operator.contents g.O.Operator.has_taken g.K.Sink.written g.K.Sink.faults g.K.Sink.writes c.args.counts c.args.operator.now c.args.member.now.stage c.args.block.now c.in-Some.block c.in-Some.is c.if-not-counts.false (sym c.state.ensures ∙ c.in-Running.is) c.requires.can }

pub returns-in-Running : goal.returns-in-Running
returns-in-Running g c =
    record { takes = taken_so g.O.Operator.plan g.O.Operator.contents g.O.Operator.has_taken g.K.Sink.written g.K.Sink.faults g.K.Sink.writes c.args.counts c.args.operator.now c.args.member.now.stage c.args.block.now c.in-Some.block c.in-Some.is c.if-not-counts.false (sym c.state.ensures ∙ c.in-Running.is) c.do_task-goes.new.stage c.do_task-goes.result c.do_task-goes.ensures.does }

pub returns-in-SinkFailed : goal.returns-in-SinkFailed
returns-in-SinkFailed g c =
    record { takes = kept_stopped g.O.Operator.plan g.O.Operator.contents g.O.Operator.has_taken g.K.Sink.written g.K.Sink.faults g.K.Sink.writes c.args.counts c.args.operator.now c.args.member.now.stage c.args.block.now c.in-Some.block c.in-Some.is (λ e. cc (e, c.state.ensures, c.in-SinkFailed.is)) }

pub returns-in-NoMemory : goal.returns-in-NoMemory
returns-in-NoMemory g c =
    record { takes = kept_stopped g.O.Operator.plan g.O.Operator.contents g.O.Operator.has_taken g.K.Sink.written g.K.Sink.faults g.K.Sink.writes c.args.counts c.args.operator.now c.args.member.now.stage c.args.block.now c.in-Some.block c.in-Some.is (λ e. cc (e, c.state.ensures, c.in-NoMemory.is)) }
