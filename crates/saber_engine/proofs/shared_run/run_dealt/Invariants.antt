use Rattle.std.specs.Prelude.{Some}
use Rattle.saber_engine.specs.Jobs.{bases}
use Rattle.saber_engine.specs.Sources.{rows_left}
use Rattle.saber_engine.proofs.shared_run.run_dealt.Given as goal

abbrev pub ghosts-run : goal.ghosts-run
ghosts-run g a = record { told = Some (bases a.sizes.now.task (rows_left g.O.Operator.plan g.J.Begins.sizes g.J.Begins.lefts) g.K.Sink.written g.K.Sink.faults g.K.Sink.writes a.op.now.list.items a.stage.items) }
