use denote.Param.Send.{sendable}
use Rattle.std.proofs.Crossing.{crosses}
use Rattle.saber_engine.proofs.Sending.{plan_sync}
use Rattle.saber_engine.proofs.run_engine.engine_pouring.Goals as goal

pub run_plan-requires-send-O : goal.run_plan-requires-send-O
run_plan-requires-send-O g c κs within = search (sendable, crosses, plan_sync) depth 52 fits 20000

pub run_plan-requires-sync-O : goal.run_plan-requires-sync-O
run_plan-requires-sync-O g c κs within = search (sendable, crosses, plan_sync) depth 52 fits 20000
