-- What a text means, and its first fault.
use Rattle.std.specs.Prelude.{◌≡◌, ℕ, ◌<◌, ◌≤◌, List, [], ◌∷◌, ◌++◌, map, length, Result, Ok, Err}
use Rattle.saber_query.specs.declared.token.Token.{Token}
use Rattle.saber_query.specs.declared.token.Placed.{Placed}
use Rattle.saber_query.specs.Parsed.{Parsed}
use Rattle.saber_query.specs.declared.fault.Cause.{Cause}
use Rattle.saber_query.specs.declared.fault.Cause.TheVariants.{TooLong, BadByte, NumberRange, Syntax, Depth}
use Rattle.saber_query.specs.declared.fault.QueryFault.{QueryFault}
use Rattle.saber_query.specs.declared.fault.QueryFault.TheVariants.{NoMemory, At}
use Rattle.saber_query.specs.Trees.{depth, query_of}
use Rattle.saber_query.specs.Words.{words, IsSyntax, IsDeep}
use Rattle.saber_query.specs.Longest.{Matches}
use Rattle.saber_query.specs.Reading.{token_of}

-- where a token begins
abbrev pub byte_of : Placed → ℕ
byte_of p = p.byte

-- where these tokens begin, or the end of the text where there are none
abbrev pub first_byte : List Placed → ℕ → ℕ
first_byte [] end = end
first_byte (p ∷ ps) end = p.byte

-- the text's tokens are the words of the tree, and the starts are where they begin
pub record MeansTree (text : List ℕ) (q : Parsed) : Type 0 where
  pub short : length text ≤ 65536
  pub placed : List Placed
  pub lexed : Matches 0 text (Ok placed)
  pub words : words (query_of q.select) ≡ map token_of placed
  pub starts : q.starts ≡ map byte_of placed
  pub shallow : depth (query_of q.select) ≤ 64

-- the text has tokens, `stops` says that they go on until these, and the byte is where these begin, or the end of the text
pub record StopsAt (stops : List Token → List Token → Type 0) (text : List ℕ) (byte : ℕ) : Type 0 where
  pub short : length text ≤ 65536
  pub before : List Placed
  pub rest : List Placed
  pub lexed : Matches 0 text (Ok (before ++ rest))
  pub there : stops (map token_of before) (map token_of rest)
  pub place : byte ≡ first_byte rest (length text)

-- The causes that a text can have, in the order in which they are looked for: its length, its tokens, its syntax. A text has no other.
abbrev pub TextFault : Cause → ℕ → List ℕ → Type 0
TextFault TooLong b text = (65536 < length text) × (b ≡ 65536)
TextFault BadByte b text = (length text ≤ 65536) × Matches 0 text (Err (At b BadByte))
TextFault NumberRange b text = (length text ≤ 65536) × Matches 0 text (Err (At b NumberRange))
TextFault Syntax b text = StopsAt (IsSyntax 64) text b
TextFault Depth b text = StopsAt (IsDeep 64) text b
TextFault _ b text = ⊥

-- the tree that the text means, or its first fault
abbrev pub ParseGives : Result Parsed QueryFault → List ℕ → Type 0
ParseGives (Ok q) text = MeansTree text q
ParseGives (Err NoMemory) text = Unit {0}
ParseGives (Err (At b c)) text = TextFault c b text
