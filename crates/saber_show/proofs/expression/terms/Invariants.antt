use Rattle.std.proofs.Common.{◌≡◌, ◌++◌, drop}
use Rattle.saber_query.specs.Words.{terms_words}
use Rattle.saber_query.specs.Spelling.{spaced_text}
use Rattle.saber_show.proofs.expression.terms.Given as goal

abbrev pub invariant-loop-term : goal.invariant-loop-term
invariant-loop-term l = l.out.items ++ spaced_text (terms_words (drop l.term-index l.terms)) ≡ l.initial.out.items ++ spaced_text (terms_words l.terms)
