use Rattle.saber_query.specs.declared.tree.Term.{Term}
use Rattle.saber_check.specs.Widths.{term_width}
use Rattle.saber_check.specs.Walked.{prod_faults}
use Rattle.saber_check.proofs.Lemmas.{Going}
use Rattle.saber_query.specs.Trees.{query_of}
use Rattle.saber_check.proofs.walk.Walk.terms.Given as goal

abbrev pub invariant-loop-term : goal.invariant-loop-term
invariant-loop-term l = Going term_width (λ k i (t : Term). prod_faults (query_of l.query) i t.prod) 1 l.terms l.term-index l.initial.self l.self
