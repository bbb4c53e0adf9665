-- Rows that compute.
use Rattle.std.proofs.Common.{◌≡◌, [], ◌∷◌, Ok, Err, refl, codes}
use Rattle.saber_query.specs.declared.token.Keyword.TheVariants as k
use Rattle.saber_query.specs.declared.token.Sign.TheVariants as s
use Rattle.saber_query.specs.declared.token.Token.TheVariants.{Word, Mark, Named, Number}
use Rattle.saber_query.specs.declared.fault.Cause.TheVariants.{BadByte}
use Rattle.saber_query.specs.declared.fault.QueryFault.TheVariants.{At}
use Rattle.saber_query.specs.Tokens.{keyword_among}
use Rattle.saber_query.specs.Lexing.{lexed_text, lex_from, step, begin, number_more, last_token, placed_token}

spaced : lexed_text (codes "select v<=007.") ≡ Ok (placed_token 0 (Word k.Select) ∷ placed_token 7 (Named (codes "v")) ∷ placed_token 8 (Mark s.AtMost) ∷ placed_token 10 (Number 7) ∷ placed_token 13 (Mark s.Dot) ∷ [])
unfolding lex_from step begin number_more last_token keyword_among
spaced = refl

bad : lexed_text (codes "a <> b ! 1") ≡ Err (At 7 BadByte)
unfolding lex_from step begin number_more last_token keyword_among
bad = refl
