use Rattle.saber_check.specs.Widths.{decl_width}
use Rattle.saber_check.specs.Walked.{decl_faults}
use Rattle.saber_check.proofs.Lemmas.{going_step, visits_all}
use Rattle.saber_query.specs.Trees.{query_of}
use Rattle.saber_check.proofs.walk.Walk.decls.Goals as goal

pub loop-behind-preserved : goal.loop-behind-preserved
loop-behind-preserved c = going_step decl_width (decl_faults (query_of c.args.query.now)) 1 _ _ c.index-others-behind.result _ _ _ _ c.loop-behind-test.true c.index-others-behind.is c.loop-behind.invariant c.skip.ensures c.decl-in-loop-behind.ensures

pub returns : goal.returns
returns c = visits_all decl_width (decl_faults (query_of c.args.query.now)) c.args.query.now.decl c.args.query.now.decls _ _ _ _ _ c.as_slice-others.ensures c.decl.ensures c.loop-behind-test.false c.loop-behind.invariant
