use Rattle.std.proofs.Common.{◌≡◌, ◌++◌, drop}
use Rattle.saber_query.specs.Words.{columns_words}
use Rattle.saber_query.specs.Spelling.{spaced_text}
use Rattle.saber_show.proofs.select.columns.Given as goal

abbrev pub invariant-loop-other : goal.invariant-loop-other
invariant-loop-other l = l.out.items ++ spaced_text (columns_words (drop l.other-index l.others)) ≡ l.initial.out.items ++ spaced_text (columns_words l.others)
