-- The text of tokens.
use Rattle.std.specs.Prelude.{◌≡◌, ℕ, List, [], ◌∷◌, ◌++◌, map, decimal, Ok}
use Rattle.saber_query.specs.declared.token.Token.{Token}
use Rattle.saber_query.specs.declared.token.Token.TheVariants.{Word, Mark, Named, Number}
use Rattle.saber_query.specs.declared.token.Placed.{Placed}
use Rattle.saber_query.specs.Tokens.{text_of, sign_text}
use Rattle.saber_query.specs.Longest.{Matches}
use Rattle.saber_query.specs.Reading.{token_of}

-- a token's text: keywords in capitals, numbers in decimal without leading zeros
unfoldable pub spell : Token → List ℕ
spell (Word w) = text_of w
spell (Mark sign) = sign_text sign
spell (Named n) = n
spell (Number n) = decimal n

-- each token with a space before
abbrev pub spaced_text : List Token → List ℕ
spaced_text [] = []
spaced_text (t ∷ ts) = 32 ∷ (spell t ++ spaced_text ts)

-- tokens with one space between
abbrev pub spelled_text : List Token → List ℕ
spelled_text [] = []
spelled_text (t ∷ ts) = spell t ++ spaced_text ts

-- the text has these tokens, wherever they begin
pub record HasTokens (text : List ℕ) (ts : List Token) : Type 0 where
  pub placed : List Placed
  pub lexed : Matches 0 text (Ok placed)
  pub same : map token_of placed ≡ ts
