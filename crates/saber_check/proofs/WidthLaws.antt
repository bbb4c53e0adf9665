-- The widths count the words.
use Rattle.std.proofs.Common.{◌≡◌, ℕ, ◌+◌, List, [], ◌∷◌, ◌++◌, length, length-append, Option, Some, None, Bool, true, false, refl, ◌∙◌, arith}
use Rattle.saber_query.specs.declared.token.Token.{Token}
use Rattle.saber_query.specs.declared.tree.Column.{Column}
use Rattle.saber_query.specs.declared.tree.Factor.{Factor}
use Rattle.saber_query.specs.declared.tree.Factor.TheVariants as f
use Rattle.saber_query.specs.declared.tree.Prod.{Prod}
use Rattle.saber_query.specs.declared.tree.Term.{Term}
use Rattle.saber_query.specs.declared.tree.Expr.{Expr}
use Rattle.saber_query.specs.declared.tree.Item.{Item}
use Rattle.saber_query.specs.declared.tree.Item.TheVariants.{Count, Sum, Min, Max, Value}
use Rattle.saber_query.specs.declared.tree.Measure.{Measure}
use Rattle.saber_query.specs.declared.tree.Measure.TheVariants.{Rows, Range, Partition}
use Rattle.saber_query.specs.declared.tree.Window.{Window}
use Rattle.saber_query.specs.declared.tree.StreamWord.{StreamWord}
use Rattle.saber_query.specs.declared.tree.Source.{Source}
use Rattle.saber_query.specs.declared.tree.Decl.{Decl}
use Rattle.saber_query.specs.declared.tree.Keys.{Keys}
use Rattle.saber_query.specs.Trees.{Test, negated, enclosed, compare, Ands, no_more, and_also, Ors, no_other, or_else, Tests, Query}
use Rattle.saber_query.specs.declared.token.Token.TheVariants.{Mark, Word, Number}
use Rattle.saber_query.specs.declared.token.Keyword.TheVariants as k
use Rattle.saber_query.specs.declared.token.Sign.TheVariants as s
use Rattle.saber_query.specs.Words as w
use Rattle.saber_check.specs.Widths as n
use Rattle.saber_check.specs.Walked.{width, closed_width}

pub each_count : {X : Type 0} (t : Token) (words : X → List Token) (wide : X → ℕ) → ((x : X) → length (words x) ≡ wide x) → (xs : List X) → length (w.after_each t words xs) ≡ n.span wide xs
each_count t words wide h [] = refl
each_count t words wide h (x ∷ xs) = omega (arith, length-append (words x) (w.after_each t words xs), h x, each_count t words wide h xs)

pub second_count : (o : Option (List ℕ)) → length (w.second_words o) ≡ n.second_width o
second_count None = refl
second_count (Some m) = refl

pub column_count : (c : Column) → length (w.column_words c) ≡ n.column_width c
column_count c = omega (arith, second_count c.second)

pub factor_count : (x : Factor) → length (w.factor_words x) ≡ n.factor_width x
factor_count (f.Column c) = column_count c
factor_count (f.Number m) = refl
factor_count (f.Negative m) = refl

pub prod_count : (p : Prod) → length (w.prod_words p) ≡ n.prod_width p
prod_count p = omega (arith, length-append {A = Token}, factor_count p.first, each_count (Mark s.Star) w.factor_words n.factor_width factor_count p.more)

terms_count : (ts : List Term) → length (w.terms_words ts) ≡ n.span n.term_width ts
terms_count [] = refl
terms_count (t ∷ ts) = omega (arith, length-append {A = Token}, prod_count t.prod, terms_count ts)

pub expr_count : (e : Expr) → length (w.expr_words e) ≡ n.expr_width e
expr_count e = omega (arith, length-append {A = Token}, prod_count e.first, terms_count e.more)

pub item_count : (i : Item) → length (w.item_words i) ≡ n.item_width i
item_count Count = refl
item_count (Sum e) = omega (arith, length-append {A = Token}, expr_count e)
item_count (Min e) = omega (arith, length-append {A = Token}, expr_count e)
item_count (Max e) = omega (arith, length-append {A = Token}, expr_count e)
item_count (Value e) = expr_count e

by_count : (g : Keys) → length (w.by_words g) ≡ 1 + (n.column_width g.first + n.span n.column_width g.more)
by_count g = omega (arith, length-append (w.second_words g.first.second) (w.after_each (Mark s.Comma) w.column_words g.more), column_count g.first, each_count (Mark s.Comma) w.column_words n.column_width column_count g.more)

pub measure_count : (m : Measure) → length (w.measure_words m) ≡ n.measure_width m
measure_count Rows = refl
measure_count Range = refl
measure_count (Partition g) = omega (arith, length-append (w.by_words g) (Word k.Rows ∷ []), by_count g)

window_count : (o : Option Window) → length (w.window_words o) ≡ n.window_width o
window_count None = refl
window_count (Some v) = omega (arith, length-append (w.measure_words v.measure) (Number v.size ∷ Word k.Slide ∷ Number v.slide ∷ Mark s.CloseBracket ∷ []), measure_count v.measure)

pub source_count : (x : Source) → length (w.source_words x) ≡ n.source_width x
source_count x = omega (arith, window_count x.window)

pub second_source_count : (o : Option Source) → length (w.second_source_words o) ≡ n.second_source_width o
second_source_count None = refl
second_source_count (Some x) = omega (arith, source_count x)

mutual
  pub test_count : (t : Test) → length (w.test_words t) ≡ n.test_width t
  test_count (negated t) = omega (arith, test_count t)
  test_count (enclosed t a o) = omega (arith, length-append {A = Token}, test_count t, ands_count a, ors_count o)
  test_count (compare x c y) = omega (arith, length-append {A = Token}, expr_count x, expr_count y)

  pub ands_count : (a : Ands) → length (w.ands_words a) ≡ n.ands_width a
  ands_count no_more = refl
  ands_count (and_also t a) = omega (arith, length-append {A = Token}, test_count t, ands_count a)

  ors_count : (o : Ors) → length (w.ors_words o) ≡ n.ors_width o
  ors_count no_other = refl
  ors_count (or_else t a o) = omega (arith, length-append {A = Token}, test_count t, ands_count a, ors_count o)

pub where_count : (o : Option Tests) → length (w.where_words o) ≡ n.where_width o
where_count None = refl
where_count (Some t) = omega (arith, length-append {A = Token}, test_count t.first, ands_count t.ands, ors_count t.ors)

group_count : (o : Option Keys) → length (w.group_words o) ≡ n.group_width o
group_count None = refl
group_count (Some g) = omega (arith, by_count g)

pub name_count : (m : List ℕ) → length (w.name_words m) ≡ n.name_width m
name_count m = refl

pub decl_count : (d : Decl) → length (w.decl_words d) ≡ 1 + n.decl_width d
decl_count d = omega (arith, length-append {A = Token}, each_count (Mark s.Comma) w.name_words n.name_width name_count d.more)

pub decls_count : (ds : List Decl) → length (w.decls_words ds) ≡ n.span n.decl_width ds
decls_count [] = refl
decls_count (d ∷ ds) = omega (arith, length-append (w.decl_words d) (w.decls_words ds), decl_count d, decls_count ds)

pub opened_count : (o : Option StreamWord) → length (w.opened_words o) ≡ n.opened_width o
opened_count None = refl
opened_count (Some v) = refl

shut_count : (o : Option StreamWord) → length (w.shut_words o) ≡ n.shut_width o
shut_count None = refl
shut_count (Some v) = refl

closed_count : (b : Bool) → length (w.last_words b) ≡ closed_width b
closed_count true = refl
closed_count false = refl

parts_count : (s t : Token) (a b y i j f o p g z l : List Token) (na nb ny ni nj nf ns np ng nz nl : ℕ) → length a ≡ na → length b ≡ nb → length y ≡ ny → length i ≡ ni → length j ≡ nj → length f ≡ nf → length o ≡ ns → length p ≡ np → length g ≡ ng → length z ≡ nz → length l ≡ nl →
    length (a ++ (b ++ (y ++ s ∷ (i ++ (j ++ t ∷ (f ++ (o ++ (p ++ (g ++ (z ++ l)))))))))) ≡ na + nb + ny + 1 + ni + nj + 1 + nf + ns + np + ng + nz + nl
parts_count s t a b y i j f o p g z l na nb ny ni nj nf ns np ng nz nl ea eb ey ei ej ef eo ep eg ez el = simp length-append (omega (arith, ea, eb, ey, ei, ej, ef, eo, ep, eg, ez, el))

-- a query has so many words
pub words_count : (q : Query) → length (w.words q) ≡ width q
words_count q =
    let e : 1 + n.decl_width q.decl + n.span n.decl_width q.decls + n.opened_width q.word + 1 + n.item_width q.item + n.span n.item_width q.items + 1 + n.source_width q.from + n.second_source_width q.second + n.where_width q.predicate + n.group_width q.group + n.shut_width q.word + closed_width q.closed ≡ width q = omega arith in
    parts_count (Word k.Select) (Word k.From) (w.decl_words q.decl) (w.decls_words q.decls) (w.opened_words q.word) (w.item_words q.item) (w.items_words q.items) (w.source_words q.from) (w.second_source_words q.second) (w.where_words q.predicate) (w.group_words q.group) (w.shut_words q.word) (w.last_words q.closed) _ _ _ _ _ _ _ _ _ _ _
    (decl_count q.decl) (decls_count q.decls) (opened_count q.word) (item_count q.item) (each_count (Mark s.Comma) w.item_words n.item_width item_count q.items) (source_count q.from) (second_source_count q.second) (where_count q.predicate) (group_count q.group) (shut_count q.word) (closed_count q.closed)
    ∙ e
