-- Each tree has words of its own.
use Rattle.std.proofs.Common.{◌≡◌, ℕ, List, [], ◌∷◌, ◌++◌, Option, Some, None, Bool, true, false, refl, sym, ◌∙◌, ap, append_assoc}
use Rattle.saber_query.specs.declared.token.Keyword.TheVariants as k
use Rattle.saber_query.specs.declared.token.Sign.TheVariants as s
use Rattle.saber_query.specs.declared.token.Token.{Token}
use Rattle.saber_query.specs.declared.token.Token.TheVariants.{Word, Mark, Number}
use Rattle.saber_query.specs.declared.tree.Factor.{Factor}
use Rattle.saber_query.specs.declared.tree.Factor.TheVariants as f
use Rattle.saber_query.specs.declared.tree.Adding.{Adding}
use Rattle.saber_query.specs.declared.tree.Adding.TheVariants.{Plus, Minus}
use Rattle.saber_query.specs.declared.tree.Term.{Term}
use Rattle.saber_query.specs.declared.tree.Prod.{Prod}
use Rattle.saber_query.specs.declared.tree.Expr.{Expr}
use Rattle.saber_query.specs.declared.tree.Item.{Item}
use Rattle.saber_query.specs.declared.tree.Item.TheVariants.{Count, Sum, Min, Max, Value}
use Rattle.saber_query.specs.declared.tree.Measure.{Measure}
use Rattle.saber_query.specs.declared.tree.Measure.TheVariants.{Rows, Range, Partition}
use Rattle.saber_query.specs.declared.tree.StreamWord.{StreamWord}
use Rattle.saber_query.specs.declared.tree.StreamWord.TheVariants.{Rstream, Istream, Dstream}
use Rattle.saber_query.specs.declared.tree.Window.{Window}
use Rattle.saber_query.specs.declared.tree.Source.{Source}
use Rattle.saber_query.specs.declared.tree.Decl.{Decl}
use Rattle.saber_query.specs.declared.tree.Column.{Column}
use Rattle.saber_query.specs.declared.tree.Keys.{Keys}
use Rattle.saber_query.specs.declared.tree.Cmp.{Cmp}
use Rattle.saber_query.specs.declared.tree.Cmp.TheVariants as c
use Rattle.saber_query.specs.Trees.{Test, negated, enclosed, compare, Ands, no_more, and_also, Ors, no_other, or_else, Tests, Query}
use Rattle.saber_query.specs.Words.{after_each, name_words, second_words, column_words, factor_words, factors_words, prod_words, adding_sign, terms_words, expr_words, argument_words, item_words, items_words, measure_words, window_words, source_words, second_source_words, cmp_sign, test_words, ands_words, ors_words, where_words, columns_words, by_words, group_words, opened_words, stream_keyword, shut_words, names_words, decl_words, decls_words, last_words, words}
use Rattle.saber_query.specs.Machine.{Symbol, factor, more_column, more_factors, more_terms, more_items, more_ands, more_ors, a_window, a_where, more_decls, more_names, a_second, more_columns, a_group, takes, refuses, push}
use Rattle.saber_query.specs.Reading.{Refuses}
use Rattle.saber_query.proofs.Forth.{EndsExpr, factors_end, terms_end, items_end, cmp_ends, EndsAnds, ands_end, ors_end, at_close, expr_begins, three, four, keys_end, EndsPred, EndsAsked, tail_ends, where_ends, second_ends, opened_ends, shut_ends}

-- words in front of what they end at are those of one part alone
abbrev Single : {X : Type 0} → (X → List Token) → (List Token → Type 0) → Type 0
Single {X} words Ends = (x y : X) (ts us : List Token) → Ends ts → Ends us → words x ++ ts ≡ words y ++ us → (x ≡ y) × (ts ≡ us)

-- what a symbol refuses doesn't begin with a token that it takes
clash : (x : Symbol) (t : Token) (ys : List Symbol) (ts us : List Token) → push x t ≡ takes ys → ts ≡ t ∷ us → Refuses x ts → ⊥
clash x t ys [] us p e h = cc
clash x t ys (v ∷ ts) us p e h = cc

same2 : {A B C : Type 0} (f : A → B → C) (a a' : A) (b b' : B) → a ≡ a' → b ≡ b' → f a b ≡ f a' b'
same2 f a a' b b' e e' = cc

same3 : {A B C D : Type 0} (f : A → B → C → D) (a a' : A) (b b' : B) (c c' : C) → a ≡ a' → b ≡ b' → c ≡ c' → f a b c ≡ f a' b' c'
same3 f a a' b b' c c' e e' e'' = cc

tail : (a b : Token) (ts us : List Token) → a ∷ ts ≡ b ∷ us → ts ≡ us
tail a b ts us e = cc

-- ---- lists

each_ends : {X : Type 0} (t : Token) (words : X → List Token) (Ends : List Token → Type 0) → ((ts : List Token) → Ends (t ∷ ts)) → (xs : List X) (ts : List Token) → Ends ts → Ends (after_each t words xs ++ ts)
each_ends t words Ends go [] ts h = h
each_ends t words Ends go (x ∷ xs) ts h = go ((words x ++ after_each t words xs) ++ ts)

each_single : {X : Type 0} (sym_of : Symbol) (t : Token) (zs : List Symbol) (words : X → List Token) (Ends : List Token → Type 0) → push sym_of t ≡ takes zs → Single words Ends → ((ts : List Token) → Ends (t ∷ ts)) →
    (xs ys : List X) (ts us : List Token) → Ends ts → Ends us → Refuses sym_of ts → Refuses sym_of us → after_each t words xs ++ ts ≡ after_each t words ys ++ us → (xs ≡ ys) × (ts ≡ us)
each_single q t zs words Ends p one go [] [] ts us h h' r r' e = (refl, e)
each_single q t zs words Ends p one go [] (y ∷ ys) ts us h h' r r' e = absurd (clash q t zs ts _ p e r)
each_single q t zs words Ends p one go (x ∷ xs) [] ts us h h' r r' e = absurd (clash q t zs us _ p (sym e) r')
each_single q t zs words Ends p one go (x ∷ xs) (y ∷ ys) ts us h h' r r' e =
    let d = sym (append_assoc (words x) (after_each t words xs) ts) ∙ tail t t _ _ e ∙ append_assoc (words y) (after_each t words ys) us in
    let (a, b) = one x y _ _ (each_ends t words Ends go xs ts h) (each_ends t words Ends go ys us h') d in
    let (a', b') = each_single q t zs words Ends p one go xs ys ts us h h' r r' b in
    (cc, b')

-- ---- expressions

second_single : Single second_words (Refuses more_column)
second_single None None ts us h h' e = (refl, e)
second_single None (Some n) ts us h h' e = absurd (clash more_column (Mark s.Dot) _ ts _ refl e h)
second_single (Some m) None ts us h h' e = absurd (clash more_column (Mark s.Dot) _ us _ refl (sym e) h')
second_single (Some m) (Some n) ts us h h' e = (cc, cc)

column_single : Single column_words (Refuses more_column)
column_single x y ts us h h' e =
    let d : x.first ≡ y.first = cc in
    let (a, b) = second_single x.second y.second ts us h h' (tail _ _ _ _ e) in
    (same2 (λ (n : List ℕ) (o : Option (List ℕ)). record { first = n; second = o }) _ _ _ _ d a, b)

factor_single : Single factor_words (Refuses more_column)
factor_single (f.Column x) (f.Column y) ts us h h' e = let (a, b) = column_single x y ts us h h' e in (ap f.Column a, b)
factor_single (f.Number m) (f.Number n) ts us h h' e = (cc, cc)
factor_single (f.Negative m) (f.Negative n) ts us h h' e = (cc, cc)
factor_single _ _ ts us h h' e = cc

factors_single : (xs ys : List Factor) (ts us : List Token) → Refuses more_column ts → Refuses more_column us → Refuses more_factors ts → Refuses more_factors us → factors_words xs ++ ts ≡ factors_words ys ++ us → (xs ≡ ys) × (ts ≡ us)
factors_single = each_single more_factors (Mark s.Star) _ factor_words (Refuses more_column) refl factor_single (λ ts. refl)

-- nothing of a product goes on
abbrev EndsProd : List Token → Type 0
EndsProd ts = Refuses more_column ts × Refuses more_factors ts

prod_single : Single prod_words EndsProd
prod_single x y ts us (h, g) (h', g') e =
    let d = sym (append_assoc (factor_words x.first) (factors_words x.more) ts) ∙ e ∙ append_assoc (factor_words y.first) (factors_words y.more) us in
    let (a, b) = factor_single x.first y.first _ _ (factors_end x.more ts h) (factors_end y.more us h') d in
    let (a', b') = factors_single x.more y.more ts us h h' g g' b in
    (same2 (λ (w : Factor) (ws : List Factor). record { first = w; more = ws }) _ _ _ _ a a', b')

adding_one : (a b : Adding) → Mark (adding_sign a) ≡ Mark (adding_sign b) → a ≡ b
adding_one Plus Plus e = refl
adding_one Minus Minus e = refl
adding_one _ _ e = cc

adding_clash : (a : Adding) (ts us : List Token) → ts ≡ Mark (adding_sign a) ∷ us → Refuses more_terms ts → ⊥
adding_clash Plus ts us e h = clash more_terms (Mark s.Plus) _ ts us refl e h
adding_clash Minus ts us e h = clash more_terms (Mark s.Minus) _ ts us refl e h

terms_single : Single terms_words EndsExpr
terms_single [] [] ts us h h' e = (refl, e)
terms_single [] (y ∷ ys) ts us h h' e = absurd (adding_clash y.adding ts _ e h.terms)
terms_single (x ∷ xs) [] ts us h h' e = absurd (adding_clash x.adding us _ (sym e) h'.terms)
terms_single (x ∷ xs) (y ∷ ys) ts us h h' e =
    let d = sym (append_assoc (prod_words x.prod) (terms_words xs) ts) ∙ tail _ _ _ _ e ∙ append_assoc (prod_words y.prod) (terms_words ys) us in
    let k : Mark (adding_sign x.adding) ≡ Mark (adding_sign y.adding) = cc in
    let (a, b) = prod_single x.prod y.prod _ _ (terms_end xs ts h) (terms_end ys us h') d in
    let (a', b') = terms_single xs ys ts us h h' b in
    (same3 (λ (w : Adding) (p : Prod) (ws : List Term). record { adding = w; prod = p } ∷ ws) _ _ _ _ _ _ (adding_one x.adding y.adding k) a a', b')

expr_single : Single expr_words EndsExpr
expr_single x y ts us h h' e =
    let d = sym (append_assoc (prod_words x.first) (terms_words x.more) ts) ∙ e ∙ append_assoc (prod_words y.first) (terms_words y.more) us in
    let (a, b) = prod_single x.first y.first _ _ (terms_end x.more ts h) (terms_end y.more us h') d in
    let (a', b') = terms_single x.more y.more ts us h h' b in
    (same2 (λ (p : Prod) (ws : List Term). record { first = p; more = ws }) _ _ _ _ a a', b')

-- an expression doesn't begin with what a factor refuses
no_expr : {P : Type 0} (x : Expr) (t : Token) (ts us : List Token) → push factor t ≡ refuses → expr_words x ++ ts ≡ t ∷ us → P
no_expr x t ts us p e = begins x.first.first (expr_begins x ts) where
  begins : {P : Type 0} (w : Factor) → expr_words x ++ ts ≡ factor_words w ++ (factors_words x.first.more ++ (terms_words x.more ++ ts)) → P
  begins (f.Column y) d = cc
  begins (f.Number n) d = cc
  begins (f.Negative n) d = cc

-- ---- items

closed : (ts : List Token) → EndsExpr (Mark s.Close ∷ ts)
closed ts = record { column = refl; factors = refl; terms = refl }

argument_single : (x y : Expr) (ts us : List Token) → argument_words x ++ ts ≡ argument_words y ++ us → (x ≡ y) × (ts ≡ us)
argument_single x y ts us e =
    let d = sym (append_assoc (expr_words x) (Mark s.Close ∷ []) ts) ∙ tail _ _ _ _ e ∙ append_assoc (expr_words y) (Mark s.Close ∷ []) us in
    let (a, b) = expr_single x y (Mark s.Close ∷ ts) (Mark s.Close ∷ us) (closed ts) (closed us) d in
    (a, tail _ _ _ _ b)

item_single : Single item_words EndsExpr
item_single Count Count ts us h h' e = (refl, cc)
item_single (Sum x) (Sum y) ts us h h' e = let (a, b) = argument_single x y ts us (tail _ _ _ _ e) in (ap Sum a, b)
item_single (Min x) (Min y) ts us h h' e = let (a, b) = argument_single x y ts us (tail _ _ _ _ e) in (ap Min a, b)
item_single (Max x) (Max y) ts us h h' e = let (a, b) = argument_single x y ts us (tail _ _ _ _ e) in (ap Max a, b)
item_single (Value x) (Value y) ts us h h' e = let (a, b) = expr_single x y ts us h h' e in (ap Value a, b)
item_single (Value x) Count ts us h h' e = no_expr x _ ts _ refl e
item_single (Value x) (Sum y) ts us h h' e = no_expr x _ ts _ refl e
item_single (Value x) (Min y) ts us h h' e = no_expr x _ ts _ refl e
item_single (Value x) (Max y) ts us h h' e = no_expr x _ ts _ refl e
item_single Count (Value y) ts us h h' e = no_expr y _ us _ refl (sym e)
item_single (Sum x) (Value y) ts us h h' e = no_expr y _ us _ refl (sym e)
item_single (Min x) (Value y) ts us h h' e = no_expr y _ us _ refl (sym e)
item_single (Max x) (Value y) ts us h h' e = no_expr y _ us _ refl (sym e)
item_single _ _ ts us h h' e = cc

at_comma : (ts : List Token) → EndsExpr (Mark s.Comma ∷ ts)
at_comma ts = record { column = refl; factors = refl; terms = refl }

items_single : (xs ys : List Item) (ts us : List Token) → EndsExpr ts → EndsExpr us → Refuses more_items ts → Refuses more_items us → items_words xs ++ ts ≡ items_words ys ++ us → (xs ≡ ys) × (ts ≡ us)
items_single = each_single more_items (Mark s.Comma) _ item_words EndsExpr refl item_single at_comma

-- ---- streams and keys

columns_single : (xs ys : List Column) (ts us : List Token) → Refuses more_column ts → Refuses more_column us → Refuses more_columns ts → Refuses more_columns us → columns_words xs ++ ts ≡ columns_words ys ++ us → (xs ≡ ys) × (ts ≡ us)
columns_single = each_single more_columns (Mark s.Comma) _ column_words (Refuses more_column) refl column_single (λ ts. refl)

-- nothing of a list of columns goes on
abbrev EndsColumns : List Token → Type 0
EndsColumns ts = Refuses more_column ts × Refuses more_columns ts

by_single : Single by_words EndsColumns
by_single x y ts us (h, g) (h', g') e =
    let d = sym (append_assoc (column_words x.first) (columns_words x.more) ts) ∙ tail _ _ _ _ e ∙ append_assoc (column_words y.first) (columns_words y.more) us in
    let (a, b) = column_single x.first y.first _ _ (keys_end x.more ts h) (keys_end y.more us h') d in
    let (a', b') = columns_single x.more y.more ts us h h' g g' b in
    (same2 (λ (w : Column) (ws : List Column). record { first = w; more = ws }) _ _ _ _ a a', b')

measure_single : (x y : Measure) (ts us : List Token) → measure_words x ++ ts ≡ measure_words y ++ us → (x ≡ y) × (ts ≡ us)
measure_single Rows Rows ts us e = (refl, tail _ _ _ _ e)
measure_single Range Range ts us e = (refl, tail _ _ _ _ e)
measure_single (Partition x) (Partition y) ts us e =
    let d = sym (append_assoc (by_words x) (Word k.Rows ∷ []) ts) ∙ tail _ _ _ _ e ∙ append_assoc (by_words y) (Word k.Rows ∷ []) us in
    let (a, b) = by_single x y (Word k.Rows ∷ ts) (Word k.Rows ∷ us) (refl, refl) (refl, refl) d in
    (ap Partition a, tail _ _ _ _ b)
measure_single _ _ ts us e = cc

window_single : Single window_words (Refuses a_window)
window_single None None ts us h h' e = (refl, e)
window_single None (Some y) ts us h h' e = absurd (clash a_window (Mark s.OpenBracket) _ ts _ refl e h)
window_single (Some x) None ts us h h' e = absurd (clash a_window (Mark s.OpenBracket) _ us _ refl (sym e) h')
window_single (Some x) (Some y) ts us h h' e =
    let ns : List Token = Number x.size ∷ Word k.Slide ∷ Number x.slide ∷ Mark s.CloseBracket ∷ [] in
    let ms : List Token = Number y.size ∷ Word k.Slide ∷ Number y.slide ∷ Mark s.CloseBracket ∷ [] in
    let d = sym (append_assoc (measure_words x.measure) ns ts) ∙ tail _ _ _ _ e ∙ append_assoc (measure_words y.measure) ms us in
    let (a, b) = measure_single x.measure y.measure (ns ++ ts) (ms ++ us) d in
    let n : x.size ≡ y.size = cc in
    let l : x.slide ≡ y.slide = cc in
    (ap Some (same3 (λ (w : Measure) (i j : ℕ). record { measure = w; size = i; slide = j }) _ _ _ _ _ _ a n l), cc)

source_single : Single source_words (Refuses a_window)
source_single x y ts us h h' e =
    let n : x.name ≡ y.name = cc in
    let (a, b) = window_single x.window y.window ts us h h' (tail _ _ _ _ e) in
    (same2 (λ (w : List ℕ) (o : Option Window). record { name = w; window = o }) _ _ _ _ n a, b)

-- nothing of the streams of FROM goes on
abbrev EndsFrom : List Token → Type 0
EndsFrom ts = Refuses a_window ts × Refuses a_second ts

second_source_single : Single second_source_words EndsFrom
second_source_single None None ts us h h' e = (refl, e)
second_source_single None (Some y) ts us h h' e = absurd (clash a_second (Mark s.Comma) _ ts _ refl e h.1)
second_source_single (Some x) None ts us h h' e = absurd (clash a_second (Mark s.Comma) _ us _ refl (sym e) h'.1)
second_source_single (Some x) (Some y) ts us h h' e = let (a, b) = source_single x y ts us h.0 h'.0 (tail _ _ _ _ e) in (ap Some a, b)

group_single : Single group_words EndsAsked
group_single None None ts us h h' e = (refl, e)
group_single None (Some y) ts us h h' e = absurd (clash a_group (Word k.Group) _ ts _ refl e h.group)
group_single (Some x) None ts us h h' e = absurd (clash a_group (Word k.Group) _ us _ refl (sym e) h'.group)
group_single (Some x) (Some y) ts us h h' e =
    let (a, b) = by_single x y ts us (h.column, h.columns) (h'.column, h'.columns) (tail _ _ _ _ e) in
    (ap Some a, b)

-- ---- the word

keyword_one : (v w : StreamWord) → Word (stream_keyword v) ≡ Word (stream_keyword w) → v ≡ w
keyword_one Rstream Rstream e = refl
keyword_one Istream Istream e = refl
keyword_one Dstream Dstream e = refl
keyword_one _ _ e = cc

no_select : (w : StreamWord) → ¬ (Word k.Select ≡ Word (stream_keyword w))
no_select Rstream e = cc
no_select Istream e = cc
no_select Dstream e = cc

head : (a b : Token) (ts us : List Token) → a ∷ ts ≡ b ∷ us → a ≡ b
head a b ts us e = cc

opened_single : (o q : Option StreamWord) (ts us : List Token) → opened_words o ++ Word k.Select ∷ ts ≡ opened_words q ++ Word k.Select ∷ us → (o ≡ q) × (ts ≡ us)
opened_single None None ts us e = (refl, tail _ _ _ _ e)
opened_single None (Some w) ts us e = absurd (no_select w (head _ _ _ _ e))
opened_single (Some v) None ts us e = absurd (no_select v (sym (head _ _ _ _ e)))
opened_single (Some v) (Some w) ts us e = (ap Some (keyword_one v w (head _ _ _ _ e)), tail _ _ _ _ (tail _ _ _ _ (tail _ _ _ _ e)))

last_one : (a b : Bool) → last_words a ≡ last_words b → a ≡ b
last_one true true e = refl
last_one false false e = refl
last_one _ _ e = cc

ended_one : (o q : Option StreamWord) (a b : Bool) → o ≡ q → shut_words o ++ last_words a ≡ shut_words q ++ last_words b → a ≡ b
ended_one None None a b h e = last_one a b e
ended_one (Some w) (Some v) a b h e = last_one a b (tail _ _ _ _ e)
ended_one _ _ a b h e = cc

-- ---- declarations

name_single : Single name_words (λ ts. Unit {0})
name_single x y ts us h h' e = (cc, cc)

names_single : (xs ys : List (List ℕ)) (ts us : List Token) → Refuses more_names ts → Refuses more_names us → names_words xs ++ ts ≡ names_words ys ++ us → (xs ≡ ys) × (ts ≡ us)
names_single xs ys ts us r r' e = each_single more_names (Mark s.Comma) _ name_words (λ zs. Unit {0}) refl name_single (λ zs. tt) xs ys ts us tt tt r r' e

decl_single : (x y : Decl) (ts us : List Token) → decl_words x ++ ts ≡ decl_words y ++ us → (x ≡ y) × (ts ≡ us)
decl_single x y ts us e =
    let n : x.name ≡ y.name = cc in
    let m : x.first ≡ y.first = cc in
    let d = sym (append_assoc (names_words x.more) (Mark s.Close ∷ Mark s.Semicolon ∷ []) ts) ∙ tail _ _ _ _ (tail _ _ _ _ (tail _ _ _ _ (tail _ _ _ _ e))) ∙ append_assoc (names_words y.more) (Mark s.Close ∷ Mark s.Semicolon ∷ []) us in
    let (a, b) = names_single x.more y.more (Mark s.Close ∷ Mark s.Semicolon ∷ ts) (Mark s.Close ∷ Mark s.Semicolon ∷ us) refl refl d in
    (same3 (λ (w v : List ℕ) (ws : List (List ℕ)). record { name = w; first = v; more = ws }) _ _ _ _ _ _ n m a, cc)

decls_single : (xs ys : List Decl) (ts us : List Token) → Refuses more_decls ts → Refuses more_decls us → decls_words xs ++ ts ≡ decls_words ys ++ us → (xs ≡ ys) × (ts ≡ us)
decls_single [] [] ts us r r' e = (refl, e)
decls_single [] (y ∷ ys) ts us r r' e = absurd (clash more_decls (Word k.Stream) _ ts _ refl e r)
decls_single (x ∷ xs) [] ts us r r' e = absurd (clash more_decls (Word k.Stream) _ us _ refl (sym e) r')
decls_single (x ∷ xs) (y ∷ ys) ts us r r' e =
    let d = sym (append_assoc (decl_words x) (decls_words xs) ts) ∙ e ∙ append_assoc (decl_words y) (decls_words ys) us in
    let (a, b) = decl_single x y _ _ d in
    let (a', b') = decls_single xs ys ts us r r' b in
    (same2 (λ (w : Decl) (ws : List Decl). w ∷ ws) _ _ _ _ a a', b')

-- ---- predicates

cmp_one : (a b : Cmp) → Mark (cmp_sign a) ≡ Mark (cmp_sign b) → a ≡ b
cmp_one c.Equal c.Equal e = refl
cmp_one c.Unequal c.Unequal e = refl
cmp_one c.Less c.Less e = refl
cmp_one c.AtMost c.AtMost e = refl
cmp_one c.Greater c.Greater e = refl
cmp_one c.AtLeast c.AtLeast e = refl
cmp_one _ _ e = cc

mutual
  test_single : (x y : Test) (ts us : List Token) → EndsExpr ts → EndsExpr us → test_words x ++ ts ≡ test_words y ++ us → (x ≡ y) × (ts ≡ us)
  test_single (negated x) (negated y) ts us h h' e = let (a, b) = test_single x y ts us h h' (tail _ _ _ _ e) in (ap negated a, b)
  test_single (enclosed x a o) (enclosed y b q) ts us h h' e =
      let d = sym (four (test_words x) (ands_words a) (ors_words o) (Mark s.Close ∷ []) ts) ∙ tail _ _ _ _ e ∙ four (test_words y) (ands_words b) (ors_words q) (Mark s.Close ∷ []) us in
      let (e1, r1) = test_single x y _ _ (ands_end a _ (ors_end o _ (at_close ts)).expr) (ands_end b _ (ors_end q _ (at_close us)).expr) d in
      let (e2, r2) = ands_single a b _ _ (ors_end o _ (at_close ts)) (ors_end q _ (at_close us)) r1 in
      let (e3, r3) = ors_single o q (Mark s.Close ∷ ts) (Mark s.Close ∷ us) (at_close ts) (at_close us) refl refl r2 in
      (same3 enclosed _ _ _ _ _ _ e1 e2 e3, tail _ _ _ _ r3)
  test_single (compare x a y) (compare z b w) ts us h h' e =
      let d = sym (append_assoc (expr_words x) (Mark (cmp_sign a) ∷ expr_words y) ts) ∙ e ∙ append_assoc (expr_words z) (Mark (cmp_sign b) ∷ expr_words w) us in
      let (e1, r1) = expr_single x z _ _ (cmp_ends a (expr_words y ++ ts)) (cmp_ends b (expr_words w ++ us)) d in
      let k : Mark (cmp_sign a) ≡ Mark (cmp_sign b) = cc in
      let (e2, r2) = expr_single y w ts us h h' (tail _ _ _ _ r1) in
      (same3 compare _ _ _ _ _ _ e1 (cmp_one a b k) e2, r2)
  test_single (compare x a y) (negated z) ts us h h' e = no_expr x (Word k.Not) _ _ refl (sym (append_assoc (expr_words x) (Mark (cmp_sign a) ∷ expr_words y) ts) ∙ e)
  test_single (compare x a y) (enclosed z b o) ts us h h' e = no_expr x (Mark s.Open) _ _ refl (sym (append_assoc (expr_words x) (Mark (cmp_sign a) ∷ expr_words y) ts) ∙ e)
  test_single (negated z) (compare x a y) ts us h h' e = no_expr x (Word k.Not) _ _ refl (sym (append_assoc (expr_words x) (Mark (cmp_sign a) ∷ expr_words y) us) ∙ sym e)
  test_single (enclosed z b o) (compare x a y) ts us h h' e = no_expr x (Mark s.Open) _ _ refl (sym (append_assoc (expr_words x) (Mark (cmp_sign a) ∷ expr_words y) us) ∙ sym e)
  test_single _ _ ts us h h' e = cc

  ands_single : (a b : Ands) (ts us : List Token) → EndsAnds ts → EndsAnds us → ands_words a ++ ts ≡ ands_words b ++ us → (a ≡ b) × (ts ≡ us)
  ands_single no_more no_more ts us h h' e = (refl, e)
  ands_single no_more (and_also y b) ts us h h' e = absurd (clash (more_ands 0) (Word k.And) _ ts _ refl e (h.ands 0))
  ands_single (and_also x a) no_more ts us h h' e = absurd (clash (more_ands 0) (Word k.And) _ us _ refl (sym e) (h'.ands 0))
  ands_single (and_also x a) (and_also y b) ts us h h' e =
      let d = sym (append_assoc (test_words x) (ands_words a) ts) ∙ tail _ _ _ _ e ∙ append_assoc (test_words y) (ands_words b) us in
      let (e1, r1) = test_single x y _ _ (ands_end a ts h.expr) (ands_end b us h'.expr) d in
      let (e2, r2) = ands_single a b ts us h h' r1 in
      (same2 and_also _ _ _ _ e1 e2, r2)

  ors_single : (o q : Ors) (ts us : List Token) → EndsAnds ts → EndsAnds us → Refuses (more_ors 0) ts → Refuses (more_ors 0) us → ors_words o ++ ts ≡ ors_words q ++ us → (o ≡ q) × (ts ≡ us)
  ors_single no_other no_other ts us h h' r r' e = (refl, e)
  ors_single no_other (or_else y b q) ts us h h' r r' e = absurd (clash (more_ors 0) (Word k.Or) _ ts _ refl e r)
  ors_single (or_else x a o) no_other ts us h h' r r' e = absurd (clash (more_ors 0) (Word k.Or) _ us _ refl (sym e) r')
  ors_single (or_else x a o) (or_else y b q) ts us h h' r r' e =
      let d = sym (three (test_words x) (ands_words a) (ors_words o) ts) ∙ tail _ _ _ _ e ∙ three (test_words y) (ands_words b) (ors_words q) us in
      let (e1, r1) = test_single x y _ _ (ands_end a _ (ors_end o _ h).expr) (ands_end b _ (ors_end q _ h').expr) d in
      let (e2, r2) = ands_single a b _ _ (ors_end o _ h) (ors_end q _ h') r1 in
      let (e3, r3) = ors_single o q ts us h h' r r' r2 in
      (same3 or_else _ _ _ _ _ _ e1 e2 e3, r3)

where_single : Single where_words EndsPred
where_single None None ts us h h' e = (refl, e)
where_single None (Some y) ts us h h' e = absurd (clash (a_where 0) (Word k.Where) _ ts _ refl e (h.wheres 0))
where_single (Some x) None ts us h h' e = absurd (clash (a_where 0) (Word k.Where) _ us _ refl (sym e) (h'.wheres 0))
where_single (Some x) (Some y) ts us h h' e =
    let d = sym (three (test_words x.first) (ands_words x.ands) (ors_words x.ors) ts) ∙ tail _ _ _ _ e ∙ three (test_words y.first) (ands_words y.ands) (ors_words y.ors) us in
    let (e1, r1) = test_single x.first y.first _ _ (ands_end x.ands _ (ors_end x.ors _ h.ands).expr) (ands_end y.ands _ (ors_end y.ors _ h'.ands).expr) d in
    let (e2, r2) = ands_single x.ands y.ands _ _ (ors_end x.ors _ h.ands) (ors_end y.ors _ h'.ands) r1 in
    let (e3, r3) = ors_single x.ors y.ors ts us h.ands h'.ands (h.ors 0) (h'.ors 0) r2 in
    (ap Some (same3 (λ (t : Test) (a : Ands) (o : Ors). record { first = t; ands = a; ors = o }) _ _ _ _ _ _ e1 e2 e3), r3)

-- ---- queries

at_from : (ts : List Token) → EndsExpr (Word k.From ∷ ts)
at_from ts = record { column = refl; factors = refl; terms = refl }

-- no two trees have the same words
pub one_tree : (x y : Query) → words x ≡ words y → x ≡ y
one_tree x y e =
    let l = shut_ends x.word x.closed in
    let l' = shut_ends y.word y.closed in
    let t = tail_ends x.group _ l in
    let t' = tail_ends y.group _ l' in
    let (w, u) = where_ends x.predicate _ t in
    let (w', u') = where_ends y.predicate _ t' in
    let (e1, r1) = decl_single x.decl y.decl _ _ e in
    let (e2, r2) = decls_single x.decls y.decls _ _ (opened_ends x.word _) (opened_ends y.word _) r1 in
    let (e0, r0) = opened_single x.word y.word _ _ r2 in
    let (e3, r3) = item_single x.item y.item _ _ (items_end x.items _ (at_from _)) (items_end y.items _ (at_from _)) r0 in
    let (e4, r4) = items_single x.items y.items _ _ (at_from _) (at_from _) refl refl r3 in
    let (e5, r5) = source_single x.from y.from _ _ (second_ends x.second _ w) (second_ends y.second _ w') (tail _ _ _ _ r4) in
    let (e6, r6) = second_source_single x.second y.second _ _ (w, u) (w', u') r5 in
    let (e7, r7) = where_single x.predicate y.predicate _ _ t t' r6 in
    let (e8, r8) = group_single x.group y.group _ _ l l' r7 in
    same3 (λ (p : Decl × List Decl × Item) (q : List Item × Source × Option Source) (r : (Option Tests × Option Keys × Bool) × Option StreamWord).
    record { decl = p.0; decls = p.1; word = r.1; item = p.2; items = q.0; from = q.1; second = q.2; predicate = r.0.0; group = r.0.1; closed = r.0.2 }) _ _ _ _ _ _
    (same3 (λ (a : Decl) (b : List Decl) (c : Item). (a, b, c)) _ _ _ _ _ _ e1 e2 e3)
    (same3 (λ (a : List Item) (b : Source) (c : Option Source). (a, b, c)) _ _ _ _ _ _ e4 e5 e6)
    (same2 (λ (a : Option Tests × Option Keys × Bool) (b : Option StreamWord). (a, b)) _ _ _ _ (same3 (λ (a : Option Tests) (b : Option Keys) (c : Bool). (a, b, c)) _ _ _ _ _ _ e7 e8 (ended_one x.word y.word x.closed y.closed e0 r8)) e0)
