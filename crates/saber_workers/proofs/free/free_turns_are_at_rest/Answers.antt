use Rattle.saber_workers.proofs.Rests.{at_rest}
use Rattle.saber_workers.proofs.free.free_turns_are_at_rest.Goals as goal

pub returns : goal.returns
returns g c size s b table even = at_rest g.O.Operator.plan g.O.Operator.is_of g.O.Operator.contents g.O.Operator.has_taken g.K.Sink.written g.K.Sink.faults g.K.Sink.writes size s b table even
