use Rattle.saber_query.proofs.ParseLemmas.{refuse, read_one}
use Rattle.saber_query.proofs.cursor.Tokens.expect_word.Goals as goal

pub returns-then-not-take_word : goal.returns-then-not-take_word
returns-then-not-take_word c = record { parses = λ x h. refuse x _ _ h.there (h.only _ c.if-not-take_word.ensures.took.1) c.if-not-take_word.ensures.took.0 }

pub returns : goal.returns
returns c = record { parses = λ x h. read_one x _ _ _ h.takes c.if-not-take_word.ensures.took }
