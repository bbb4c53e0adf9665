use Rattle.saber_assembly.specs.Stages.{stage_view}
use Rattle.saber_workers.proofs.Pourings.{poured}
use Rattle.saber_workers.proofs.queries.AnyLaborSaberWork.absorb.Goals as goal

pub returns-clause-stage : goal.returns-clause-stage
returns-clause-stage g c told k suits is piece =
    let e = c.pour.ensures in let o = g.O.Operator in
    poured o.plan (stage_view o.contents g.K.Sink.written g.K.Sink.faults g.K.Sink.writes) o.has_taken told c.take_in-goes.new.stage c.pour.new.self e.store e.tasks e.state (e.seen o.contents) k c.take_in-goes.result
    (c.take_in-goes.ensures.stage told k suits is piece)
