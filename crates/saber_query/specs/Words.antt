-- The words of trees.
use Rattle.std.specs.Prelude.{◌≡◌, ◌⊎◌, ℕ, suc, ◌≤◌, List, [], ◌∷◌, ◌++◌, Option, Bool, true, false, map, option_map, Vec}
use Rattle.std.specs.Option.{option_map_or}
use Rattle.std.specs.declared.alloc.Global.{Global}
use Rattle.saber_query.specs.declared.tree.Unit.{Unit as Unit_tree}
use Rattle.saber_query.specs.declared.tree.Conj.{Conj}
use Rattle.saber_query.specs.declared.token.Keyword.{Keyword}
use Rattle.saber_query.specs.declared.token.Keyword.TheVariants as k
use Rattle.saber_query.specs.declared.token.Sign.{Sign}
use Rattle.saber_query.specs.declared.token.Sign.TheVariants as s
use Rattle.saber_query.specs.declared.token.Token.{Token}
use Rattle.saber_query.specs.declared.token.Token.TheVariants.{Word, Mark, Named, Number}
use Rattle.saber_query.specs.declared.tree.Column.{Column}
use Rattle.saber_query.specs.declared.tree.Factor.{Factor}
use Rattle.saber_query.specs.declared.tree.Factor.TheVariants as f
use Rattle.saber_query.specs.declared.tree.Prod.{Prod}
use Rattle.saber_query.specs.declared.tree.Adding.{Adding}
use Rattle.saber_query.specs.declared.tree.Adding.TheVariants.{Plus, Minus}
use Rattle.saber_query.specs.declared.tree.Term.{Term}
use Rattle.saber_query.specs.declared.tree.Expr.{Expr}
use Rattle.saber_query.specs.declared.tree.Item.{Item}
use Rattle.saber_query.specs.declared.tree.Item.TheVariants.{Count, Sum, Min, Max, Value}
use Rattle.saber_query.specs.declared.tree.Measure.{Measure}
use Rattle.saber_query.specs.declared.tree.Measure.TheVariants.{Rows, Range, Partition}
use Rattle.saber_query.specs.declared.tree.Window.{Window}
use Rattle.saber_query.specs.declared.tree.Source.{Source}
use Rattle.saber_query.specs.declared.tree.Decl.{Decl}
use Rattle.saber_query.specs.declared.tree.Keys.{Keys}
use Rattle.saber_query.specs.declared.tree.StreamWord.{StreamWord}
use Rattle.saber_query.specs.declared.tree.StreamWord.TheVariants.{Rstream, Istream, Dstream}
use Rattle.saber_query.specs.declared.select.Chosen.{Chosen}
use Rattle.saber_query.specs.declared.select.Body.{Body}
use Rattle.saber_query.specs.declared.select.Ends.{Ends}
use Rattle.saber_query.specs.declared.tree.Cmp.{Cmp}
use Rattle.saber_query.specs.declared.tree.Cmp.TheVariants as c
use Rattle.saber_query.specs.Real.{AllReal}
use Rattle.saber_query.specs.Trees.{Test, negated, enclosed, compare, Ands, no_more, and_also, Ors, no_other, or_else, Tests, Both, Asked, Query, depth, test_of, both_of, ands_of, ors_of, tests_of}

-- parts that each have this word before
abbrev pub after_each : {X : Type 0} → Token → (X → List Token) → List X → List Token
after_each t words [] = []
after_each t words (x ∷ xs) = t ∷ (words x ++ after_each t words xs)

abbrev pub name_words : List ℕ → List Token
name_words n = Named n ∷ []

abbrev pub second_words : Option (List ℕ) → List Token
second_words o = option_map_or (λ n. Mark s.Dot ∷ Named n ∷ []) o []

abbrev pub column_words : Column → List Token
column_words c = Named c.first ∷ second_words c.second

abbrev pub factor_words : Factor → List Token
factor_words (f.Column c) = column_words c
factor_words (f.Number n) = Number n ∷ []
factor_words (f.Negative n) = Mark s.Minus ∷ Number n ∷ []

abbrev pub factors_words : List Factor → List Token
factors_words xs = after_each (Mark s.Star) factor_words xs

abbrev pub prod_words : Prod → List Token
prod_words p = factor_words p.first ++ factors_words p.more

abbrev pub adding_sign : Adding → Sign
adding_sign Plus = s.Plus
adding_sign Minus = s.Minus

abbrev pub terms_words : List Term → List Token
terms_words [] = []
terms_words (t ∷ ts) = Mark (adding_sign t.adding) ∷ (prod_words t.prod ++ terms_words ts)

abbrev pub expr_words : Expr → List Token
expr_words e = prod_words e.first ++ terms_words e.more

abbrev pub argument_words : Expr → List Token
argument_words e = Mark s.Open ∷ (expr_words e ++ Mark s.Close ∷ [])

abbrev pub item_words : Item → List Token
item_words Count = Word k.Count ∷ Mark s.Open ∷ Mark s.Star ∷ Mark s.Close ∷ []
item_words (Sum e) = Word k.Sum ∷ argument_words e
item_words (Min e) = Word k.Min ∷ argument_words e
item_words (Max e) = Word k.Max ∷ argument_words e
item_words (Value e) = expr_words e

abbrev pub items_words : List Item → List Token
items_words is = after_each (Mark s.Comma) item_words is

abbrev pub columns_words : List Column → List Token
columns_words cs = after_each (Mark s.Comma) column_words cs

-- behind GROUP and PARTITION
abbrev pub by_words : Keys → List Token
by_words g = Word k.By ∷ (column_words g.first ++ columns_words g.more)

abbrev pub measure_words : Measure → List Token
measure_words Rows = Word k.Rows ∷ []
measure_words Range = Word k.Range ∷ []
measure_words (Partition g) = Word k.Partition ∷ (by_words g ++ Word k.Rows ∷ [])

abbrev pub window_words : Option Window → List Token
window_words o = option_map_or (λ (w : Window). Mark s.OpenBracket ∷ (measure_words w.measure ++ Number w.size ∷ Word k.Slide ∷ Number w.slide ∷ Mark s.CloseBracket ∷ [])) o []

abbrev pub source_words : Source → List Token
source_words f = Named f.name ∷ window_words f.window

abbrev pub second_source_words : Option Source → List Token
second_source_words o = option_map_or (λ f. Mark s.Comma ∷ source_words f) o []

abbrev pub cmp_sign : Cmp → Sign
cmp_sign c.Equal = s.Equal
cmp_sign c.Unequal = s.Unequal
cmp_sign c.Less = s.Less
cmp_sign c.AtMost = s.AtMost
cmp_sign c.Greater = s.Greater
cmp_sign c.AtLeast = s.AtLeast

abbrev mutual
  pub test_words : Test → List Token
  test_words (negated t) = Word k.Not ∷ test_words t
  test_words (enclosed t a o) = Mark s.Open ∷ (test_words t ++ (ands_words a ++ (ors_words o ++ Mark s.Close ∷ [])))
  test_words (compare x c y) = expr_words x ++ Mark (cmp_sign c) ∷ expr_words y

  pub ands_words : Ands → List Token
  ands_words no_more = []
  ands_words (and_also t a) = Word k.And ∷ (test_words t ++ ands_words a)

  pub ors_words : Ors → List Token
  ors_words no_other = []
  ors_words (or_else t a o) = Word k.Or ∷ (test_words t ++ (ands_words a ++ ors_words o))

abbrev pub tests_words : Tests → List Token
tests_words t = test_words t.first ++ (ands_words t.ands ++ ors_words t.ors)

abbrev pub both_words : Both → List Token
both_words b = test_words b.first ++ ands_words b.ands

abbrev pub units_words : Vec Unit_tree Global → List Token
units_words us = ands_words (ands_of (map test_of us.items))

abbrev pub conjs_words : Vec Conj Global → List Token
conjs_words cs = ors_words (ors_of (map both_of cs.items))

abbrev pub where_words : Option Tests → List Token
where_words o = option_map_or (λ t. Word k.Where ∷ tests_words t) o []

abbrev pub group_words : Option Keys → List Token
group_words o = option_map_or (λ g. Word k.Group ∷ by_words g) o []

abbrev pub names_words : List (List ℕ) → List Token
names_words ns = after_each (Mark s.Comma) name_words ns

-- what follows STREAM
abbrev pub declared_words : Decl → List Token
declared_words d = Named d.name ∷ Mark s.Open ∷ Named d.first ∷ (names_words d.more ++ Mark s.Close ∷ Mark s.Semicolon ∷ [])

abbrev pub decl_words : Decl → List Token
decl_words d = Word k.Stream ∷ declared_words d

abbrev pub decls_words : List Decl → List Token
decls_words [] = []
decls_words (d ∷ ds) = decl_words d ++ decls_words ds

abbrev pub last_words : Bool → List Token
last_words false = []
last_words true = Mark s.Semicolon ∷ []

abbrev pub stream_keyword : StreamWord → Keyword
stream_keyword Rstream = k.Rstream
stream_keyword Istream = k.Istream
stream_keyword Dstream = k.Dstream

-- before SELECT, and behind all but the last semicolon
abbrev pub opened_words : Option StreamWord → List Token
opened_words o = option_map_or (λ w. Word (stream_keyword w) ∷ Mark s.Open ∷ []) o []

abbrev pub shut_words : Option StreamWord → List Token
shut_words o = option_map_or (λ w. Mark s.Close ∷ []) o []

-- from SELECT to before FROM
abbrev pub outputs_words : Item → List Item → List Token
outputs_words i is = Word k.Select ∷ (item_words i ++ items_words is)

-- FROM and its streams
abbrev pub streams_words : Source → Option Source → List Token
streams_words f o = Word k.From ∷ (source_words f ++ second_source_words o)

-- WHERE and GROUP BY
abbrev pub ends_words : Option Tests → Option Keys → List Token
ends_words p g = where_words p ++ group_words g

-- the same of what was taken there
abbrev pub words_of_ends : Ends → List Token
words_of_ends e = ends_words (option_map tests_of e.predicate) e.group

-- from SELECT on
abbrev pub asked_words : Asked → List Token
asked_words a = Word k.Select ∷ (item_words a.item ++ (items_words a.items ++ Word k.From ∷ (source_words a.from ++ (second_source_words a.second ++ (where_words a.predicate ++ group_words a.group)))))

-- what was taken there
abbrev pub asked_of : Chosen → Asked
asked_of c = record {
  item = c.outputs.item;
  items = c.outputs.items;
  from = c.streams.from;
  second = c.streams.second;
  predicate = option_map tests_of c.ends.predicate;
  group = c.ends.group;
}

-- with the word around it
abbrev pub body_words : Option StreamWord → Asked → List Token
body_words o a = opened_words o ++ (asked_words a ++ shut_words o)

abbrev pub words_of_body : Body → List Token
words_of_body b = body_words b.word (asked_of b.chosen)

abbrev pub words : Query → List Token
words q =
    decl_words q.decl ++ (decls_words q.decls ++ (opened_words q.word
    ++ Word k.Select ∷ (item_words q.item ++ (items_words q.items
    ++ Word k.From ∷ (source_words q.from ++ (second_source_words q.second
    ++ (where_words q.predicate ++ (group_words q.group
    ++ (shut_words q.word ++ last_words q.closed)))))))))

-- ---- what contracts cite

-- the tokens begin the words of some tree of at most this depth, whose other words are ones that a text can have
pub record Begins (d : ℕ) (ts : List Token) : Type 0 where
  pub tree : Query
  pub rest : List Token
  pub words : words tree ≡ ts ++ rest
  pub real : AllReal rest
  pub shallow : depth tree ≤ d

-- no tree goes on so: with the next token, or with nothing
abbrev pub Unfit : List Token → List Token → Type 0
Unfit before [] = (q : Query) → ¬ (words q ≡ before)
Unfit before (t ∷ ts) = (e : ℕ) → ¬ (Begins e (before ++ t ∷ []))

-- The rest begins with the first token that doesn't fit (or is empty, where a token lacks): those before begin the words of a tree of
-- at most depth d, and with it they begin those of no tree.
pub record IsSyntax (d : ℕ) (before rest : List Token) : Type 0 where
  pub begins : Begins d before
  pub none : Unfit before rest

-- what opens one level more
abbrev pub Opens : Token → Type 0
Opens t = (t ≡ Word k.Not) ⊎ (t ≡ Mark s.Open)

-- The token is the first that goes too deep: it is NOT or an opening parenthesis, and with it those before begin the words of a tree,
-- but of none of at most depth d.
pub record GoesTooDeep (d : ℕ) (before : List Token) (token : Token) : Type 0 where
  pub opens : Opens token
  pub begins : Begins d before
  pub deeper : Begins (suc d) (before ++ token ∷ [])
  pub none : ¬ (Begins d (before ++ token ∷ []))

-- the rest begins with the first token that goes too deep
abbrev pub IsDeep : ℕ → List Token → List Token → Type 0
IsDeep d before [] = ⊥
IsDeep d before (t ∷ ts) = GoesTooDeep d before t
