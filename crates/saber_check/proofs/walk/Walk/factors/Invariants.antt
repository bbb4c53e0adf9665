use Rattle.saber_check.specs.Widths.{factor_width}
use Rattle.saber_check.specs.Walked.{factor_faults}
use Rattle.saber_check.proofs.Lemmas.{Going}
use Rattle.saber_query.specs.Trees.{query_of}
use Rattle.saber_check.proofs.walk.Walk.factors.Given as goal

abbrev pub invariant-loop-factor : goal.invariant-loop-factor
invariant-loop-factor l = Going factor_width (λ k. factor_faults (query_of l.query)) 1 l.factors l.factor-index l.initial.self l.self
