use Rattle.std.proofs.Common.{length}
use Rattle.saber_query.specs.Machine.{more_terms}
use Rattle.saber_query.specs.Words.{terms_words}
use Rattle.saber_query.specs.Reading.{coming_tokens}
use Rattle.saber_query.proofs.ParseLemmas.{Going}
use Rattle.saber_query.proofs.expression.terms.Given as goal

abbrev pub invariant-loop-adding : goal.invariant-loop-adding
invariant-loop-adding l = Going more_terms (terms_words l.items.items) (coming_tokens l.initial.tokens) (coming_tokens l.tokens)

abbrev pub decreases-loop-adding : goal.decreases-loop-adding
decreases-loop-adding l = length (coming_tokens l.tokens)
