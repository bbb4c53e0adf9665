-- Tokens of a text.
use Rattle.std.specs.Prelude.{ℕ, List, [], ◌∷◌, Option, Some, None, codes, if◌then◌else◌}
use Rattle.std.specs.Str.{str_eq_ignore_ascii_case}
use Rattle.saber_query.specs.declared.token.Keyword.{Keyword}
use Rattle.saber_query.specs.declared.token.Keyword.TheVariants as k
use Rattle.saber_query.specs.declared.token.Sign.{Sign}
use Rattle.saber_query.specs.declared.token.Sign.TheVariants as s
use Rattle.saber_query.specs.declared.token.Token.{Token}
use Rattle.saber_query.specs.declared.token.Token.TheVariants.{Word, Named}

-- a keyword in capitals
abbrev pub text_of : Keyword → List ℕ
text_of k.Stream = codes "STREAM"
text_of k.Select = codes "SELECT"
text_of k.From = codes "FROM"
text_of k.Where = codes "WHERE"
text_of k.Group = codes "GROUP"
text_of k.By = codes "BY"
text_of k.And = codes "AND"
text_of k.Or = codes "OR"
text_of k.Not = codes "NOT"
text_of k.Rows = codes "ROWS"
text_of k.Range = codes "RANGE"
text_of k.Slide = codes "SLIDE"
text_of k.Count = codes "COUNT"
text_of k.Sum = codes "SUM"
text_of k.Min = codes "MIN"
text_of k.Max = codes "MAX"
text_of k.Partition = codes "PARTITION"
text_of k.Rstream = codes "RSTREAM"
text_of k.Istream = codes "ISTREAM"
text_of k.Dstream = codes "DSTREAM"

-- how a sign is written
abbrev pub sign_text : Sign → List ℕ
sign_text s.Open = 40 ∷ []
sign_text s.Close = 41 ∷ []
sign_text s.OpenBracket = 91 ∷ []
sign_text s.CloseBracket = 93 ∷ []
sign_text s.Comma = 44 ∷ []
sign_text s.Semicolon = 59 ∷ []
sign_text s.Dot = 46 ∷ []
sign_text s.Star = 42 ∷ []
sign_text s.Plus = 43 ∷ []
sign_text s.Minus = 45 ∷ []
sign_text s.Equal = 61 ∷ []
sign_text s.Unequal = 60 ∷ 62 ∷ []
sign_text s.Less = 60 ∷ []
sign_text s.AtMost = 60 ∷ 61 ∷ []
sign_text s.Greater = 62 ∷ []
sign_text s.AtLeast = 62 ∷ 61 ∷ []

abbrev pub keywords : List Keyword
keywords =
    k.Stream ∷ k.Select ∷ k.From ∷ k.Where ∷ k.Group ∷ k.By ∷ k.And ∷ k.Or ∷ k.Not
    ∷ k.Rows ∷ k.Range ∷ k.Slide ∷ k.Count ∷ k.Sum ∷ k.Min ∷ k.Max
    ∷ k.Partition ∷ k.Rstream ∷ k.Istream ∷ k.Dstream ∷ []

-- the first of the keywords that the bytes are in any case
unfoldable pub keyword_among : List ℕ → List Keyword → Option Keyword
keyword_among bs [] = None
keyword_among bs (w ∷ ws) = if str_eq_ignore_ascii_case bs (text_of w) then Some w else keyword_among bs ws

abbrev pub keyword_of : List ℕ → Option Keyword
keyword_of bs = keyword_among bs keywords

abbrev pub word_or : List ℕ → Option Keyword → Token
word_or bs None = Named bs
word_or bs (Some w) = Word w

-- the keyword that the bytes are in any case, else a name
abbrev pub word_of : List ℕ → Token
word_of bs = word_or bs (keyword_of bs)
