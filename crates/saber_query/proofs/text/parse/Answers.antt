use Rattle.std.proofs.Common.{arith}
use Rattle.saber_query.proofs.TextLemmas.{lex_fails}
use Rattle.saber_query.proofs.text.parse.Goals as goal

pub returns-in-Err : goal.returns-in-Err
returns-in-Err c = lex_fails c.in-Err.fault c.args.text.now (omega arith) c.in-Err.ensures.causes c.in-Err.ensures.gives
