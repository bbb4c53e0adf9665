use Rattle.std.proofs.Common.{refl}
use Rattle.saber_query.specs.declared.token.Keyword.TheVariants as k
use Rattle.saber_query.specs.declared.token.Token.TheVariants.{Word}
use Rattle.saber_query.specs.Words.{declared_words}
use Rattle.saber_query.specs.Machine.{declaration_symbols, decl}
use Rattle.saber_query.proofs.ParseLemmas.{refuse, no_stream}
use Rattle.saber_query.proofs.WholeLemmas.{token_parses}
use Rattle.saber_query.proofs.declaration.decl.Goals as goal

pub returns-then-not-take_word : goal.returns-then-not-take_word
returns-then-not-take_word c = refuse decl _ _ refl (no_stream _ c.if-not-take_word.ensures.took.1) c.if-not-take_word.ensures.took.0

pub returns : goal.returns
returns c = token_parses decl declaration_symbols (Word k.Stream) declared_words _ _ _ _ refl c.if-not-take_word.ensures.took c.declared.ensures
