use Rattle.std.proofs.Common.{refl}
use Rattle.saber_assembly.specs.Stages.{stage_view}
use Rattle.saber_plan.specs.declared.stages.StageState.TheVariants.{Running}
use Rattle.saber_assembly.proofs.Beginning.{begins}
use Rattle.saber_assembly.proofs.stage.Stage.new.Goals as goal

pub returns-clause-keeps : goal.returns-clause-keeps
returns-clause-keeps g c n r t =
    let s = stage_view g.O.Operator.contents g.K.Sink.written g.K.Sink.faults g.K.Sink.writes (record { sink = c.args.sink; store = c.empty_store.result; k = 0; state = Running }) in
    begins (g.O.Operator.plan c.args.operator.now) n r (record { written = g.K.Sink.written c.args.sink; faults = g.K.Sink.faults c.args.sink; writes = g.K.Sink.writes c.args.sink }) (g.O.Operator.has_taken c.args.operator.now c.empty_store.result) s t refl refl refl c.empty_store.ensures.contents refl refl c.empty_store.ensures.taken
