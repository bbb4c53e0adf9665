use Rattle.std.proofs.Common.{◌+◌}
use Rattle.saber_query.specs.declared.tree.Term.{Term}
use Rattle.saber_check.specs.Widths.{term_width, prod_width}
use Rattle.saber_check.specs.Walked.{prod_faults}
use Rattle.saber_check.proofs.Lemmas.{going_step, going_done, each_map}
use Rattle.saber_query.specs.Trees.{query_of}
use Rattle.saber_check.proofs.walk.Walk.terms.Goals as goal

pub loop-term-preserved : goal.loop-term-preserved
loop-term-preserved c = going_step term_width (λ k i (t : Term). prod_faults _ i t.prod) 1 _ _ c.term-item.result _ _ _ _ c.loop-term-test.true c.term-item.is c.loop-term.invariant c.skip.ensures c.prod.ensures

pub returns : goal.returns
returns c = rw (each_map (λ (t : Term). t.prod) prod_width (λ k. prod_faults (query_of c.args.query.now)) 1 (c.args.self.now.index + 1) c.args.terms.now) (going_done term_width (λ k i (t : Term). prod_faults _ i t.prod) 1 _ _ _ _ c.loop-term-test.false c.loop-term.invariant)
