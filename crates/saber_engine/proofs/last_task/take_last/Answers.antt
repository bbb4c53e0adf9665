use Rattle.std.proofs.Common.{sym, ◌∙◌, ap, length}
use Rattle.std.specs.Vec.{with_items}
use Rattle.saber_engine.proofs.LastTakes.{lent_can, lent_takes}
use Rattle.saber_engine.proofs.Queues.{written}
use Rattle.saber_engine.proofs.last_task.take_last.Goals as goal

pub take_each-requires : goal.take_each-requires
take_each-requires g c =
    record {
      many = ap length c.deref_mut.ensures.value ∙ c.requires.many ∙ ap length (sym c.deref.ensures.value);
      can = lent_can g.O.Operator.plan g.O.Operator.contents g.O.Operator.has_taken g.K.Sink.written g.K.Sink.faults g.K.Sink.writes c.args.block.now c.args.operators.now.list.items c.deref.result.now c.args.counts.now c.args.members.items c.deref_mut.result.now
          c.deref.ensures.value c.deref_mut.ensures.value c.requires.can;
    }

pub returns : goal.returns
returns g c =
    let new = c.take_each.new.members in
    record {
      takes = lent_takes g.O.Operator.plan g.O.Operator.contents g.O.Operator.has_taken g.K.Sink.written g.K.Sink.faults g.K.Sink.writes c.args.block.now c.args.operators.now.list.items c.deref.result.now c.args.counts.now c.args.members.items c.deref_mut.result.now new (with_items c.args.members new).items
          c.deref.ensures.value c.deref_mut.ensures.value (written c.args.members c.deref_mut.result.now new c.deref_mut.ensures.value c.take_each.ensures.many) c.take_each.ensures.takes;
    }
