-- What a step of the parser does to the tokens that are left.
use Rattle.std.specs.Prelude.{◌≡◌, ℕ, ◌≤◌, List, [], ◌∷◌, ◌++◌, map, Option, Some, None, Bool, true, false, Result, Ok, Err}
use Rattle.saber_query.specs.declared.token.Token.{Token}
use Rattle.saber_query.specs.declared.token.Token.TheVariants.{Word, Mark, Named, Number}
use Rattle.saber_query.specs.declared.token.Placed.{Placed}
use Rattle.saber_query.specs.declared.cursor.Tokens.{Tokens}
use Rattle.saber_query.specs.declared.tree.Cmp.{Cmp}
use Rattle.saber_query.specs.declared.stop.Stop.{Stop}
use Rattle.saber_query.specs.declared.stop.Stop.TheVariants.{NoMemory, Syntax, Depth}
use Rattle.saber_query.specs.declared.token.Sign.TheVariants as s
use Rattle.saber_query.specs.declared.token.Keyword.TheVariants as k
use Rattle.saber_query.specs.declared.tree.Adding.{Adding}
use Rattle.saber_query.specs.declared.tree.StreamWord.{StreamWord}
use Rattle.saber_query.specs.declared.tree.Select.{Select}
use Rattle.saber_query.specs.Trees.{depth, query_of}
use Rattle.saber_query.specs.Words.{cmp_sign, adding_sign, stream_keyword, words, IsSyntax, IsDeep}
use Rattle.saber_query.specs.Machine.{Symbol, stops, deepens, fate, push, takes, refuses, may_lack}

abbrev pub token_of : Placed → Token
token_of p = p.token

abbrev pub coming_tokens : Tokens → List Token
coming_tokens t = map token_of t.rest.items

abbrev pub StartsWith : Token → List Token → Type 0
StartsWith w [] = ⊥
StartsWith w (t ∷ ts) = t ≡ w

-- whether the token was there, and then it was taken
abbrev pub Took : Token → Bool → List Token → List Token → Type 0
Took w true old new = old ≡ w ∷ new
Took w false old new = (new ≡ old) × ¬ (StartsWith w old)

abbrev pub starts_name : List Token → Bool
starts_name (Named n ∷ ts) = true
starts_name _ = false

abbrev pub starts_number : List Token → Bool
starts_number (Number n ∷ ts) = true
starts_number _ = false

abbrev pub TookName : Option (List ℕ) → List Token → List Token → Type 0
TookName (Some n) old new = old ≡ Named n ∷ new
TookName None old new = (new ≡ old) × (starts_name old ≡ false)

abbrev pub TookNumber : Option ℕ → List Token → List Token → Type 0
TookNumber (Some n) old new = old ≡ Number n ∷ new
TookNumber None old new = (new ≡ old) × (starts_number old ≡ false)

abbrev pub TookAdding : Option Adding → List Token → List Token → Type 0
TookAdding (Some a) old new = old ≡ Mark (adding_sign a) ∷ new
TookAdding None old new = (new ≡ old) × ¬ (StartsWith (Mark s.Plus) old) × ¬ (StartsWith (Mark s.Minus) old)

-- the tokens don't begin with a sign that compares
abbrev pub StartsWithNoCmp : List Token → Type 0
StartsWithNoCmp ts =
    ¬ (StartsWith (Mark s.Equal) ts)
    × ¬ (StartsWith (Mark s.Unequal) ts)
    × ¬ (StartsWith (Mark s.Less) ts)
    × ¬ (StartsWith (Mark s.AtMost) ts)
    × ¬ (StartsWith (Mark s.Greater) ts)
    × ¬ (StartsWith (Mark s.AtLeast) ts)

abbrev pub TookCmp : Option Cmp → List Token → List Token → Type 0
TookCmp (Some c) old new = old ≡ Mark (cmp_sign c) ∷ new
TookCmp None old new = (new ≡ old) × StartsWithNoCmp old

-- the tokens begin with none of RSTREAM, ISTREAM and DSTREAM
abbrev pub StartsWithNoStreamWord : List Token → Type 0
StartsWithNoStreamWord ts =
    ¬ (StartsWith (Word k.Rstream) ts)
    × ¬ (StartsWith (Word k.Istream) ts)
    × ¬ (StartsWith (Word k.Dstream) ts)

abbrev pub TookStreamWord : Option StreamWord → List Token → List Token → Type 0
TookStreamWord (Some w) old new = old ≡ Word (stream_keyword w) ∷ new
TookStreamWord None old new = (new ≡ old) × StartsWithNoStreamWord old

abbrev pub Expected : {T : Type 0} → Token → Result T Stop → List Token → List Token → Type 0
Expected w (Ok u) old new = old ≡ w ∷ new
Expected w (Err Syntax) old new = (new ≡ old) × ¬ (StartsWith w old)
Expected w (Err NoMemory) old new = ⊥
Expected w (Err Depth) old new = ⊥

-- these words were read, and the machine goes on behind them, whatever comes next
pub record Reads (xs : List Symbol) (w : List Token) (old new : List Token) : Type 0 where
  pub words : old ≡ w ++ new
  pub goes : (ys : List Symbol) → fate (xs ++ ys) old ≡ fate ys new

abbrev pub Parses : {T : Type 0} → List Symbol → (T → List Token) → Result T Stop → List Token → List Token → Type 0
Parses xs words (Ok v) old new = Reads xs (words v) old new
Parses xs words (Err NoMemory) old new = Unit {0}
Parses xs words (Err Syntax) old new = (ys : List Symbol) → fate (xs ++ ys) old ≡ stops new
Parses xs words (Err Depth) old new = (ys : List Symbol) → fate (xs ++ ys) old ≡ deepens new

-- the symbol doesn't take the next token
abbrev pub Refuses : Symbol → List Token → Type 0
Refuses x [] = Unit {0}
Refuses x (t ∷ ts) = push x t ≡ refuses

-- the symbol stands for this token alone
pub record IsTerminal (x : Symbol) (w : Token) : Type 0 where
  pub takes : push x w ≡ takes []
  pub there : may_lack x ≡ false
  pub only : (ts : List Token) → ¬ (StartsWith w ts) → Refuses x ts

-- the tokens end with the rest, and what stands before it stops there
abbrev pub StopsWith : (List Token → List Token → Type 0) → List Token → List Token → Type 0
StopsWith Stops ts rest = (before : List Token) × (ts ≡ before ++ rest) × Stops before rest

-- what a parse of all tokens comes to: their tree, or the first token that doesn't fit or goes too deep, with what is left from there
abbrev pub QueryGives : Result Select Stop → List Token → List Token → Type 0
QueryGives (Ok q) ts rest = (words (query_of q) ≡ ts) × (depth (query_of q) ≤ 64)
QueryGives (Err NoMemory) ts rest = Unit {0}
QueryGives (Err Syntax) ts rest = StopsWith (IsSyntax 64) ts rest
QueryGives (Err Depth) ts rest = StopsWith (IsDeep 64) ts rest
