use Rattle.std.specs.Prelude.{Some}
use Rattle.saber_engine.specs.Sources.{rows_left}
use Rattle.saber_engine.specs.Supplying.{first_told}
use Rattle.saber_engine.proofs.plans.run_plan.Given as goal

abbrev pub ghosts-run : goal.ghosts-run
ghosts-run g a = record { told = Some (first_told a.op.now a.sizes.now.task (g.K.Sink.written a.stage.sink) (g.K.Sink.faults a.stage.sink) (g.K.Sink.writes a.stage.sink) (rows_left g.O.Operator.plan g.J.Begins.sizes g.J.Begins.lefts a.op.now)) }
