use Rattle.saber_check.specs.Widths.{item_width}
use Rattle.saber_check.specs.Walked.{item_faults}
use Rattle.saber_check.proofs.Lemmas.{going_step, visits_all}
use Rattle.saber_query.specs.Trees.{query_of}
use Rattle.saber_check.proofs.walk.Walk.items.Goals as goal

pub loop-behind-preserved : goal.loop-behind-preserved
loop-behind-preserved c = going_step item_width (item_faults (query_of c.args.query.now)) 1 _ _ c.index-others-behind.result _ _ _ _ c.loop-behind-test.true c.index-others-behind.is c.loop-behind.invariant c.skip.ensures c.item-in-loop-behind.ensures

pub returns : goal.returns
returns c = visits_all item_width (item_faults (query_of c.args.query.now)) c.args.query.now.item c.args.query.now.items _ _ _ _ _ c.as_slice-others.ensures c.item.ensures c.loop-behind-test.false c.loop-behind.invariant
