use Rattle.saber_plan.specs.Trees.{tree_of}
use Rattle.saber_laws.proofs.CheckedLaws.{checked_fit}
use Rattle.saber_chain.proofs.Both.{chains, narrow, no_pipe, takes_none}
use Rattle.saber_chain.proofs.runs.chain.Goals as goal

pub returns-in-Ok-clause-gives : goal.returns-in-Ok-clause-gives
returns-in-Ok-clause-gives g c = chains g.S.Source.left g.S.Source.faults g.K.Sink.written g.K.Sink.faults g.K.Sink.writes (tree_of c.args.plans.now.first) (tree_of c.args.plans.now.second) c.args.sizes.now c.args.inputs c.args.sink c.run_both.result c.requires.open_end c.requires.sizes.task.0 c.run_both.ensures

pub returns-in-Ok-clause-narrow : goal.returns-in-Ok-clause-narrow
returns-in-Ok-clause-narrow g c = narrow g.S.Source.left g.S.Source.faults g.K.Sink.written g.K.Sink.faults g.K.Sink.writes (tree_of c.args.plans.now.first) (tree_of c.args.plans.now.second) c.args.sizes.now c.args.inputs c.args.sink c.run_both.result c.requires.second c.requires.one c.requires.sizes.ring.0 c.run_both.ensures

pub returns-in-Err-clause-gives : goal.returns-in-Err-clause-gives
returns-in-Err-clause-gives g c = let first = tree_of c.args.plans.now.first in let second = tree_of c.args.plans.now.second in
    no_pipe first second (checked_fit first c.requires.first) (checked_fit second c.requires.second) c.args.sizes.now _ _ c.args.inputs c.args.sink

pub returns-in-Err-clause-takes : goal.returns-in-Err-clause-takes
returns-in-Err-clause-takes g c = takes_none g.S.Source.left c.args.inputs
