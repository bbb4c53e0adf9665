use Rattle.std.proofs.Common.{refl}
use Rattle.saber_query.proofs.ParseLemmas.{deep_not, deep_open}
use Rattle.saber_query.proofs.predicate.shallow.Goals as goal

pub returns-then-at_word-clause-parses : goal.returns-then-at_word-clause-parses
returns-then-at_word-clause-parses c = deep_not _ (c.if-at_word.ensures.0 refl)

pub returns-then-at_mark-clause-parses : goal.returns-then-at_mark-clause-parses
returns-then-at_mark-clause-parses c = deep_open _ (c.if-at_mark.ensures.0 refl)
