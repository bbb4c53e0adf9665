use Rattle.std.specs.Prelude.{Some, None}
use Rattle.saber_engine.specs.Supplying.{first_told}
use Rattle.saber_engine.proofs.fed_plans.run_fed.Given as goal

abbrev pub ghosts-run : goal.ghosts-run
ghosts-run g a = record { told = Some (first_told a.op.now a.sizes.now.task (g.K.Sink.written a.stage.sink) (g.K.Sink.faults a.stage.sink) (g.K.Sink.writes a.stage.sink) None) }
