use denote.Param.Send.{sendable}
use Rattle.std.proofs.Crossing.{crosses}
use Rattle.saber_plan.specs.Checked.{IsChecked}
use Rattle.saber_engine.specs.Jobs.{tree_in}
use Rattle.saber_engine.proofs.Queues.{lent_all}
use Rattle.saber_engine.proofs.Sending.{plan_sync}
use Rattle.saber_engine.proofs.Serves.{all_share}
use Rattle.saber_engine.proofs.run_engines.engines.Goals as goal

pub counts_for-requires : goal.counts_for-requires
counts_for-requires g c = record { checked = lent_all (λ job. IsChecked (tree_in job)) c.deref.result.now c.args.jobs.items c.deref.ensures.value c.requires.checked }

pub operators_for-requires : goal.operators_for-requires
operators_for-requires g c = record { checked = lent_all (λ job. IsChecked (tree_in job)) c.deref-2.result.now c.args.jobs.items c.deref-2.ensures.value c.requires.checked }

pub run_each-result-requires-clause-share : goal.run_each-result-requires-clause-share
run_each-result-requires-clause-share g c κs within =
    let (columns, alike) = c.requires.alike in
    (columns, all_share tree_in columns c.args.jobs.items c.requires.checked c.requires.one alike)

pub run_each-result-requires-send-O : goal.run_each-result-requires-send-O
run_each-result-requires-send-O g c κs within = search (sendable, crosses, plan_sync) depth 52 fits 20000

pub run_each-result-requires-sync-O : goal.run_each-result-requires-sync-O
run_each-result-requires-sync-O g c κs within = search (sendable, crosses, plan_sync) depth 52 fits 20000
