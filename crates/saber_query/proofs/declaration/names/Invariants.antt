use Rattle.std.proofs.Common.{length}
use Rattle.saber_query.specs.Machine.{more_names}
use Rattle.saber_query.specs.Words.{names_words}
use Rattle.saber_query.specs.Reading.{coming_tokens}
use Rattle.saber_query.proofs.ParseLemmas.{Going}
use Rattle.saber_query.proofs.declaration.names.Given as goal

abbrev pub invariant-loop-items : goal.invariant-loop-items
invariant-loop-items l = Going more_names (names_words l.items.items) (coming_tokens l.initial.tokens) (coming_tokens l.tokens)

abbrev pub decreases-loop-items : goal.decreases-loop-items
decreases-loop-items l = length (coming_tokens l.tokens)
