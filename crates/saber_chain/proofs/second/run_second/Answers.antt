use Rattle.saber_plan.specs.Trees.{tree_of}
use Rattle.saber_pipe.specs.Relays.{taken_by, mark_in}
use Rattle.saber_chain.specs.Seconds.{RunsSecondTo}
use Rattle.saber_chain.proofs.Settling.{drained, ran_fed}
use Rattle.saber_chain.proofs.second.run_second.Goals as goal

pub returns-clause-runs : goal.returns-clause-runs
returns-clause-runs g c =
    let relay = c.engine_fed-ran.new.feed in
    let ran = c.engine_fed-ran.result in
    let e = c.engine_fed-ran.ensures in
    let fed : RunsSecondTo g.K.Sink.written g.K.Sink.writes (tree_of c.args.plan.now) c.args.sizes.now (taken_by relay) (mark_in relay) c.args.sink ran =
    ran_fed c.second_sizes.ensures e.gives e.one_write e.whole e.all e.cut in
    drained fed c.drain.ensures.drains
