use Rattle.saber_check.specs.Widths.{column_width}
use Rattle.saber_check.specs.Walked.{key_faults}
use Rattle.saber_check.proofs.Lemmas.{going_step, visits_all}
use Rattle.saber_query.specs.Trees.{query_of}
use Rattle.saber_check.proofs.walk.Walk.keys.Goals as goal

pub loop-behind-preserved : goal.loop-behind-preserved
loop-behind-preserved c = going_step column_width (key_faults (query_of c.args.query.now) c.args.group.now) 1 _ _ c.index-others-behind.result _ _ _ _ c.loop-behind-test.true c.index-others-behind.is c.loop-behind.invariant c.skip.ensures c.key-in-loop-behind.ensures

pub returns : goal.returns
returns c = visits_all column_width (key_faults (query_of c.args.query.now) c.args.group.now) c.args.group.now.first c.args.group.now.more _ _ _ _ _ c.as_slice-others.ensures c.key.ensures c.loop-behind-test.false c.loop-behind.invariant
