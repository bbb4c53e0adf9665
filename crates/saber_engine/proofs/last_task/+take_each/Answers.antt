use Rattle.std.proofs.Common.{◌≡◌, length, sym, ◌∙◌, ap, arith, rules}
use Rattle.std.specs.Prelude.{suc}
use Rattle.saber_engine.proofs.LastTakes.{first_can, others_can, takes_more, takes_none, takes_untold, takes_nowhere}
use Rattle.saber_engine.proofs.Queues.{less_long}
use Rattle.saber_engine.proofs.last_task.+take_each.Goals as goal

pub returns-in_default-clause-takes : goal.returns-in_default-clause-takes
returns-in_default-clause-takes g l c =
    let none : length c.args.operators.now ≡ 0 = search rules in
    takes_none g.O.Operator.plan g.O.Operator.contents g.O.Operator.has_taken g.K.Sink.written g.K.Sink.faults g.K.Sink.writes c.args.block.now c.args.operators.now c.args.counts.now c.args.members.now none c.requires.many

pub returns-in_default-split_first-clause-takes : goal.returns-in_default-split_first-clause-takes
returns-in_default-split_first-clause-takes g l c =
    let none : length c.args.counts.now ≡ 0 = search rules in
    takes_untold g.O.Operator.plan g.O.Operator.contents g.O.Operator.has_taken g.K.Sink.written g.K.Sink.faults g.K.Sink.writes c.args.block.now c.args.operators.now c.args.counts.now c.args.members.now none c.requires.many

pub returns-in_default-split_first_mut-clause-takes : goal.returns-in_default-split_first_mut-clause-takes
returns-in_default-split_first_mut-clause-takes g l c =
    let none : length c.args.members.now ≡ 0 = search rules in
    takes_nowhere g.O.Operator.plan g.O.Operator.contents g.O.Operator.has_taken g.K.Sink.written g.K.Sink.faults g.K.Sink.writes c.args.block.now c.args.operators.now c.args.counts.now c.args.members.now none c.requires.many

pub take_one-requires : goal.take_one-requires
take_one-requires g l c =
    record {
      can = first_can g.O.Operator.plan g.O.Operator.contents g.O.Operator.has_taken g.K.Sink.written g.K.Sink.faults g.K.Sink.writes c.args.block.now c.in-Some.operator.now c.in-Some.others.now c.args.operators.now c.in-Some-split_first.mine.now c.in-Some-split_first.rest.now c.args.counts.now
          c.in-Some-split_first_mut.member.now c.in-Some-split_first_mut.more.now c.args.members.now c.in-Some.ensures.cases.0 c.in-Some-split_first.ensures.cases.0 c.in-Some-split_first_mut.ensures.cases.0 c.requires.can;
    }

pub take_each-requires : goal.take_each-requires
take_each-requires g l c κs within =
    let less = c.in-Some.ensures.cases.1 in
    let operators = c.in-Some.ensures.cases.0 in
    let members = c.in-Some-split_first_mut.ensures.cases.0 in
    let many = less_long c.in-Some-split_first_mut.member.now c.in-Some-split_first_mut.more.now c.args.members.now c.in-Some.operator.now c.in-Some.others.now c.args.operators.now members operators c.requires.many in
    let can = others_can g.O.Operator.plan g.O.Operator.contents g.O.Operator.has_taken g.K.Sink.written g.K.Sink.faults g.K.Sink.writes c.args.block.now c.in-Some.operator.now c.in-Some.others.now c.args.operators.now c.in-Some-split_first.mine.now c.in-Some-split_first.rest.now c.args.counts.now
    c.in-Some-split_first_mut.member.now c.in-Some-split_first_mut.more.now c.args.members.now operators c.in-Some-split_first.ensures.cases.0 members c.requires.can in
    (omega (arith, less), (within.0, (within.1.0, (within.1.1.0, (within.1.1.1.0, (within.1.1.1.1, (many, can)))))))

pub returns-clause-takes : goal.returns-clause-takes
returns-clause-takes g l c =
    takes_more g.O.Operator.plan g.O.Operator.contents g.O.Operator.has_taken g.K.Sink.written g.K.Sink.faults g.K.Sink.writes c.args.block.now c.in-Some.operator.now c.in-Some.others.now c.args.operators.now c.in-Some-split_first.mine.now c.in-Some-split_first.rest.now c.args.counts.now
    c.in-Some-split_first_mut.member.now c.in-Some-split_first_mut.more.now c.args.members.now c.in-Some.ensures.cases.0 c.in-Some-split_first.ensures.cases.0 c.in-Some-split_first_mut.ensures.cases.0 c.take_one.new.member c.take_each.new.members c.take_one.ensures.takes c.take_each.ensures.takes

pub returns-clause-many : goal.returns-clause-many
returns-clause-many g l c = ap suc c.take_each.ensures.many ∙ ap length (sym c.in-Some-split_first_mut.ensures.cases.0)
