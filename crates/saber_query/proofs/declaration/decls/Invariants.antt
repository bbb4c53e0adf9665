use Rattle.std.proofs.Common.{length}
use Rattle.saber_query.specs.Machine.{more_decls}
use Rattle.saber_query.specs.Words.{decls_words}
use Rattle.saber_query.specs.Reading.{coming_tokens}
use Rattle.saber_query.proofs.ParseLemmas.{Going}
use Rattle.saber_query.proofs.declaration.decls.Given as goal

abbrev pub invariant-loop-alloc : goal.invariant-loop-alloc
invariant-loop-alloc l = Going more_decls (decls_words l.items.items) (coming_tokens l.initial.tokens) (coming_tokens l.tokens)

abbrev pub decreases-loop-alloc : goal.decreases-loop-alloc
decreases-loop-alloc l = length (coming_tokens l.tokens)
