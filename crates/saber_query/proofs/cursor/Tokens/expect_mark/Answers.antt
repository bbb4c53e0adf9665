use Rattle.saber_query.proofs.ParseLemmas.{refuse, read_one}
use Rattle.saber_query.proofs.cursor.Tokens.expect_mark.Goals as goal

pub returns-then-not-take_mark-clause-parses : goal.returns-then-not-take_mark-clause-parses
returns-then-not-take_mark-clause-parses c x h = refuse x _ _ h.there (h.only _ c.if-not-take_mark.ensures.took.1) c.if-not-take_mark.ensures.took.0

pub returns-clause-parses : goal.returns-clause-parses
returns-clause-parses c x h = read_one x _ _ _ h.takes c.if-not-take_mark.ensures.took
