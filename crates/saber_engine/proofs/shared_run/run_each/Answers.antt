use Rattle.saber_dispatch.specs.Cutting.{CutsNothing}
use Rattle.saber_dispatch.specs.Ending.{without_end}
use Rattle.saber_engine.specs.Jobs.{tree_in, MayShare, KeepsNone}
use Rattle.saber_engine.proofs.Queues.{lent_all, owned_all, owned_zip}
use Rattle.saber_engine.proofs.shared_run.run_each.Goals as goal

pub new-requires-clause-share : goal.new-requires-clause-share
new-requires-clause-share g c =
    let (columns, may) = c.requires.share in
    (columns, lent_all (λ job. MayShare columns (tree_in job)) c.deref-2.result.now c.args.jobs.items c.deref-2.ensures.value may)

pub run_dealt-requires-clause-cuts : goal.run_dealt-requires-clause-cuts
run_dealt-requires-clause-cuts g c κs within =
    owned_all (λ job. CutsNothing (tree_in job) (without_end c.args.sizes.now) c.in-Ok-new.dealt.cutter) c.deref-2.result.now c.args.jobs.items c.deref-2.ensures.value c.in-Ok-new.ensures.cuts

pub run_dealt-requires-clause-keepers : goal.run_dealt-requires-clause-keepers
run_dealt-requires-clause-keepers g c κs within =
    owned_zip (λ job k. KeepsNone (tree_in job) k) c.deref-2.result.now c.args.jobs.items c.in-Ok-new.dealt.keepers.items c.deref-2.ensures.value c.in-Ok-new.ensures.keepers
