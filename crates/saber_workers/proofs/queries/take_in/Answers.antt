use Rattle.std.proofs.Common.{◌≡◌, ◌+◌, ◌∙◌, ap, true, false}
use Rattle.saber_workers.proofs.Absorbings.{can_absorb, keeps_after}
use Rattle.saber_workers.proofs.queries.take_in.Goals as goal

not_both : false ≡ true → ⊥
not_both e = cc

not_either : true ≡ false → ⊥
not_either e = cc

pub absorb-requires-clause-next : goal.absorb-requires-clause-next
absorb-requires-clause-next g c =
    let r = c.requires in can_absorb g.O.Operator.plan g.O.Operator.is_of g.O.Operator.contents g.O.Operator.has_taken g.K.Sink.written g.K.Sink.faults g.K.Sink.writes c.args.op.now r.0 r.1 c.args.stage.now c.args.stage.now r.3 r.4 c.args.piece r.5

pub returns-in-Done-clause-stage : goal.returns-in-Done-clause-stage
returns-in-Done-clause-stage g c told k suits is piece =
    let e = c.absorb.ensures in record {
      behind = e.rises c.in-Done.is ∙ ap (λ z. z + 1) is.behind;
      keeps = keeps_after g.O.Operator.plan g.O.Operator.is_of g.O.Operator.contents g.O.Operator.has_taken g.K.Sink.written g.K.Sink.faults g.K.Sink.writes c.args.op.now told k c.args.stage.now c.absorb.new.self suits is c.args.piece c.absorb.result piece e.keeps e.none e.memory e.good e.no_write e.stays;
      runs = λ no. e.runs c.in-Done.is;
      stops = λ no. absurd (not_both no);
    }

pub returns-in-Stopped-clause-stage : goal.returns-in-Stopped-clause-stage
returns-in-Stopped-clause-stage g c told k suits is piece =
    let e = c.absorb.ensures in record {
      behind = e.stays c.in-Stopped.is ∙ is.behind;
      keeps = keeps_after g.O.Operator.plan g.O.Operator.is_of g.O.Operator.contents g.O.Operator.has_taken g.K.Sink.written g.K.Sink.faults g.K.Sink.writes c.args.op.now told k c.args.stage.now c.absorb.new.self suits is c.args.piece c.absorb.result piece e.keeps e.none e.memory e.good e.no_write e.stays;
      runs = λ no. absurd (not_either no);
      stops = λ no. e.stopped c.in-Stopped.is;
    }
