use Rattle.std.proofs.Common.{length}
use Rattle.saber_query.specs.Machine.{more_factors}
use Rattle.saber_query.specs.Words.{factors_words}
use Rattle.saber_query.specs.Reading.{coming_tokens}
use Rattle.saber_query.proofs.ParseLemmas.{Going}
use Rattle.saber_query.proofs.expression.factors.Given as goal

abbrev pub invariant-loop-items : goal.invariant-loop-items
invariant-loop-items l = Going more_factors (factors_words l.items.items) (coming_tokens l.initial.tokens) (coming_tokens l.tokens)

abbrev pub decreases-loop-items : goal.decreases-loop-items
decreases-loop-items l = length (coming_tokens l.tokens)
