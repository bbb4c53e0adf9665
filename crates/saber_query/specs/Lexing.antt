-- Bytes of tokens; and the tokens of a text as the code reads them, byte by byte. What they are, told without that, `Longest` says.
use Rattle.std.specs.Prelude.{◌≡◌, ℕ, ◌+◌, ◌-◌, ◌*◌, ◌^◌, List, [], ◌∷◌, ◌++◌, Bool, true, false, ◌||◌, if◌then◌else◌, ◌==◌, nat_le, Option, Some, None, Result, Ok, Err, Vec}
use Rattle.std.specs.declared.alloc.Global.{Global}
use Rattle.std.specs.Char.{is_ascii_digit, is_ascii_alphabetic}
use Rattle.saber_query.specs.declared.token.Sign.{Sign}
use Rattle.saber_query.specs.declared.token.Sign.TheVariants as s
use Rattle.saber_query.specs.declared.token.Token.{Token}
use Rattle.saber_query.specs.declared.token.Token.TheVariants.{Mark, Number}
use Rattle.saber_query.specs.declared.token.Placed.{Placed}
use Rattle.saber_query.specs.declared.lexer.Pending.{Pending}
use Rattle.saber_query.specs.declared.lexer.Pending.TheVariants as p
use Rattle.saber_query.specs.declared.fault.Cause.TheVariants.{BadByte, NumberRange}
use Rattle.saber_query.specs.declared.fault.QueryFault.{QueryFault}
use Rattle.saber_query.specs.declared.fault.QueryFault.TheVariants.{NoMemory, At}
use Rattle.saber_query.specs.Tokens.{word_of}

-- what a name begins with: an ASCII letter or _
abbrev pub is_letter : ℕ → Bool
is_letter b = is_ascii_alphabetic b || b == 95

-- what a name goes on with
abbrev pub is_name_byte : ℕ → Bool
is_name_byte b = is_letter b || is_ascii_digit b

-- space, tab, LF and CR, which may stand between tokens
abbrev pub is_space : ℕ → Bool
is_space b = b == 32 || b == 9 || b == 10 || b == 13

abbrev pub placed_token : ℕ → Token → Placed
placed_token at t = record { byte = at; token = t }

-- tokens in front of those of the rest, if that has no bad one
abbrev pub onto : List Placed → Result (List Placed) QueryFault → Result (List Placed) QueryFault
onto ts (Ok us) = Ok (ts ++ us)
onto ts (Err f) = Err f

-- ---- byte by byte

-- a sign of one byte that begins no longer one
abbrev pub single : ℕ → Option Sign
single b =
    if b == 40 then Some s.Open else
    (if b == 41 then Some s.Close else
    (if b == 91 then Some s.OpenBracket else
    (if b == 93 then Some s.CloseBracket else
    (if b == 44 then Some s.Comma else
    (if b == 59 then Some s.Semicolon else
    (if b == 46 then Some s.Dot else
    (if b == 42 then Some s.Star else
    (if b == 43 then Some s.Plus else
    (if b == 45 then Some s.Minus else
    (if b == 61 then Some s.Equal else None))))))))))

-- the sign of two bytes, if a byte goes on with < or >
abbrev pub double : Bool → ℕ → Option Sign
double false b = if b == 61 then Some s.AtMost else (if b == 62 then Some s.Unequal else None)
double true b = if b == 61 then Some s.AtLeast else None

-- < and > where nothing goes on
abbrev pub angle : Bool → Sign
angle false = s.Less
angle true = s.Greater

-- what a byte leads to: the tokens that end by it, and what is pending behind it
pub data Step : Type 0 where
  goes : List Placed → Pending → Step
  fails : QueryFault → Step

abbrev pub after : Placed → Step → Step
after t (goes ts q) = goes (t ∷ ts) q
after t (fails f) = fails f

abbrev pub if_single : ℕ → Option Sign → Step
if_single at (Some sign) = goes (placed_token at (Mark sign) ∷ []) p.Nothing
if_single at None = fails (At at BadByte)

-- a byte that begins a token, or is a space
unfoldable pub begin : ℕ → ℕ → Step
begin at b =
    if is_letter b then goes [] (p.Name at (b ∷ [])) else
    (if is_ascii_digit b then goes [] (p.Number at (b - 48)) else
    (if b == 60 then goes [] (p.Angle at false) else
    (if b == 62 then goes [] (p.Angle at true) else
    (if is_space b then goes [] p.Nothing else
    if_single at (single b)))))

-- a number with one digit more, up to 2^63
unfoldable pub number_more : ℕ → ℕ → Step
number_more start n = if nat_le n (2 ^ 63) then goes [] (p.Number start n) else fails (At start NumberRange)

abbrev pub if_double : ℕ → ℕ → Bool → ℕ → Option Sign → Step
if_double at start greater b (Some sign) = goes (placed_token start (Mark sign) ∷ []) p.Nothing
if_double at start greater b None = after (placed_token start (Mark (angle greater))) (begin at b)

-- a byte behind what is pending
unfoldable pub step : ℕ → Pending → ℕ → Step
step at p.Nothing b = begin at b
step at (p.Name start bs) b = if is_name_byte b then goes [] (p.Name start (bs ++ b ∷ [])) else after (placed_token start (word_of bs)) (begin at b)
step at (p.Number start n) b = if is_ascii_digit b then number_more start (10 * n + (b - 48)) else after (placed_token start (Number n)) (begin at b)
step at (p.Angle start greater) b = if_double at start greater b (double greater b)

-- the token that ends with the text
unfoldable pub last_token : Pending → List Placed
last_token p.Nothing = []
last_token (p.Name start bs) = placed_token start (word_of bs) ∷ []
last_token (p.Number start n) = placed_token start (Number n) ∷ []
last_token (p.Angle start greater) = placed_token start (Mark (angle greater)) ∷ []

abbrev pub follow : Step → (Pending → Result (List Placed) QueryFault) → Result (List Placed) QueryFault
follow (goes ts q) rest = onto ts (rest q)
follow (fails f) rest = Err f

-- the tokens of a text from a place on
unfoldable pub lex_from : ℕ → Pending → List ℕ → Result (List Placed) QueryFault
lex_from at q [] = Ok (last_token q)
lex_from at q (b ∷ bs) = follow (step at q b) (λ r. lex_from (at + 1) r bs)

-- The tokens of a text, or the first that is bad. The longest match wins: a name takes all letters, digits and _ that come, a number
-- all digits, < and > the = or > that makes a sign of two; so what is pending ends only where the next byte can't go on with it.
abbrev pub lexed_text : List ℕ → Result (List Placed) QueryFault
lexed_text text = lex_from 0 p.Nothing text

-- what a step of the code comes to
abbrev pub StepGives : Result Pending QueryFault → List Placed → List Placed → Step → Type 0
StepGives (Ok q) old new (goes ts r) = (q ≡ r) × (new ≡ old ++ ts)
StepGives (Ok q) old new (fails f) = ⊥
StepGives (Err NoMemory) old new s = Unit {0}
StepGives (Err (At b c)) old new s = s ≡ fails (At b c)

-- tokens or a fault, if memory serves
abbrev pub LexGives : Result (List Placed) QueryFault → Result (List Placed) QueryFault → Type 0
LexGives (Err NoMemory) want = Unit {0}
LexGives (Err (At b c)) want = want ≡ Err (At b c)
LexGives (Ok ts) want = want ≡ Ok ts

abbrev pub tokens_in : Result (Vec Placed Global) QueryFault → Result (List Placed) QueryFault
tokens_in (Ok ts) = Ok ts.items
tokens_in (Err f) = Err f
