-- The tokens of a text by longest match, told by what stands in the text and not by how it is read.
use Rattle.std.specs.Prelude.{◌≡◌, ℕ, ◌+◌, ◌^◌, ◌<◌, List, [], ◌∷◌, ◌++◌, length, Bool, true, false, ◌&&◌, Result, Ok, Err}
use Rattle.std.specs.Char.{is_ascii_digit}
use Rattle.std.specs.List.{list_all}
use Rattle.std.specs.Str.Parse.{digits_value}
use Rattle.saber_query.specs.declared.token.Sign.{Sign}
use Rattle.saber_query.specs.declared.token.Token.{Token}
use Rattle.saber_query.specs.declared.token.Token.TheVariants.{Mark, Number}
use Rattle.saber_query.specs.declared.token.Placed.{Placed}
use Rattle.saber_query.specs.declared.fault.Cause.TheVariants.{BadByte, NumberRange}
use Rattle.saber_query.specs.declared.fault.QueryFault.{QueryFault}
use Rattle.saber_query.specs.declared.fault.QueryFault.TheVariants.{At}
use Rattle.saber_query.specs.Tokens.{word_of, sign_text}
use Rattle.saber_query.specs.Real.{is_name_text, IsReal}
use Rattle.saber_query.specs.Lexing.{is_space, placed_token, onto}

-- at least one digit, and nothing else
abbrev pub is_number_text : List ℕ → Bool
is_number_text [] = false
is_number_text (b ∷ bs) = is_ascii_digit b && list_all is_ascii_digit bs

-- The bytes are those of the token: a name, or a keyword in any case; a number of any size; or a sign.
pub data Spells (bs : List ℕ) (t : Token) : Type 0 where
  a_word : is_name_text bs ≡ true → t ≡ word_of bs → Spells bs t
  a_number : is_number_text bs ≡ true → t ≡ Number (digits_value 10 bs) → Spells bs t
  a_sign : (sign : Sign) → bs ≡ sign_text sign → t ≡ Mark sign → Spells bs t

-- no longer front of the bytes and the rest is a token
abbrev pub IsLongest : List ℕ → List ℕ → Type 0
IsLongest bs rest = (more left : List ℕ) (t : Token) → rest ≡ more ++ left → Spells (bs ++ more) t → more ≡ []

-- no front of the text is a token
abbrev pub BeginsNone : List ℕ → Type 0
BeginsNone text = (bs rest : List ℕ) (t : Token) → text ≡ bs ++ rest → ¬ (Spells bs t)

-- tokens with their places, or the first bad one
abbrev pub Answer : Type 0
Answer = Result (List Placed) QueryFault

-- The tokens of a text that begins at a byte, or its first bad token: white space is passed over; else the longest front that is a token is taken, if it is one
-- that a text can have, and else it is a number that is too great; a byte with which no token begins is bad.
pub data Matches : ℕ → List ℕ → Answer → Type 0 where
  at_end : (at : ℕ) → Matches at [] (Ok [])
  passed : (at b : ℕ) (rest : List ℕ) (r : Answer) → is_space b ≡ true → Matches (at + 1) rest r → Matches at (b ∷ rest) r
  taken : (at : ℕ) (bs rest : List ℕ) (t : Token) (r : Answer) → Spells bs t → IsLongest bs rest → IsReal t → Matches (at + length bs) rest r →
      Matches at (bs ++ rest) (onto (placed_token at t ∷ []) r)
  too_great : (at : ℕ) (bs rest : List ℕ) (n : ℕ) → Spells bs (Number n) → IsLongest bs rest → 2 ^ 63 < n → Matches at (bs ++ rest) (Err (At at NumberRange))
  bad : (at b : ℕ) (rest : List ℕ) → is_space b ≡ false → BeginsNone (b ∷ rest) → Matches at (b ∷ rest) (Err (At at BadByte))
