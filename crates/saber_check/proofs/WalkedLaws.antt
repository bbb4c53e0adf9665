-- What the walk finds is what is wrong with the query: a width is how many words there are.
use Rattle.std.proofs.Common.{◌≡◌, ℕ, ◌+◌, List, [], ◌∷◌, ◌++◌, length, length-append, Option, Some, None, refl, ap, ◌∙◌, arith}
use Rattle.std.specs.Option.{option_map_or}
use Rattle.std.specs.Prelude.{◌^◌, ◌==◌, ◌&&◌, not, true, false, nat_lt, take, option_and_then}
use Rattle.saber_query.specs.declared.token.Token.{Token}
use Rattle.saber_query.specs.declared.token.Token.TheVariants.{Mark}
use Rattle.saber_query.specs.declared.token.Sign.TheVariants as s
use Rattle.saber_query.specs.declared.tree.Column.{Column}
use Rattle.saber_query.specs.declared.tree.Factor.{Factor}
use Rattle.saber_query.specs.declared.tree.Factor.TheVariants as f
use Rattle.saber_query.specs.declared.tree.Prod.{Prod}
use Rattle.saber_query.specs.declared.tree.Expr.{Expr}
use Rattle.saber_query.specs.declared.tree.Item.{Item}
use Rattle.saber_query.specs.declared.tree.Item.TheVariants.{Count, Sum, Min, Max, Value}
use Rattle.saber_query.specs.declared.tree.Measure.{Measure}
use Rattle.saber_query.specs.declared.tree.Measure.TheVariants.{Rows, Range, Partition}
use Rattle.saber_query.specs.declared.tree.Window.{Window}
use Rattle.saber_query.specs.declared.tree.Source.{Source}
use Rattle.saber_query.specs.declared.tree.Decl.{Decl}
use Rattle.saber_query.specs.declared.tree.Keys.{Keys}
use Rattle.saber_query.specs.Trees.{Test, negated, enclosed, compare, Ands, no_more, and_also, Ors, no_other, or_else, Tests, Query}
use Rattle.saber_query.specs.Words as w
use Rattle.saber_query.specs.declared.fault.Cause.TheVariants as cause
use Rattle.saber_check.specs.declared.fault.Fault.{Fault}
use Rattle.saber_check.specs.Bounds as b
use Rattle.saber_check.specs.Faults as n
use Rattle.saber_check.specs.Least.{row, each}
use Rattle.saber_check.specs.Names.{decls, names, names_stream, is_unknown_stream, is_unknown_column, is_ambiguous, same}
use Rattle.saber_check.specs.Walked.{running_product, product_bound, product_faults, sum_faults, running_sum, is_sum_wide, column_faults, factor_faults, prod_faults, expr_faults, content_faults, item_faults, decl_faults, key_faults, keys_faults, measure_faults, window_faults, source_faults, second_faults, test_faults, ands_faults, ors_faults, group_faults, select_at, from_at, second_at, where_at, group_at, faults}
use Rattle.saber_check.specs.Widths as d
use Rattle.saber_check.proofs.WidthLaws.{each_count, second_count, column_count, factor_count, prod_count, expr_count, item_count, measure_count, source_count, second_source_count, test_count, ands_count, where_count, name_count, decl_count, decls_count, opened_count}

-- parts with the same faults, as many words each
parts : {X : Type 0} (words : X → List Token) (width : X → ℕ) (fs gs : ℕ → ℕ → X → List Fault) → ((x : X) → length (words x) ≡ width x) → ((k i : ℕ) (x : X) → fs k i x ≡ gs k i x) → (k i : ℕ) (xs : List X) → n.each words fs k i xs ≡ each width gs k i xs
unfolding each
parts words width fs gs h e k i [] = refl
parts words width fs gs h e k i (x ∷ xs) = rw (h x) (λ t. e k i x t ++ parts words width fs gs h e (k + 1) (i + width x + 1) xs t)

-- ---- bounds

product : (m : ℕ) (xs : List Factor) → b.running b.times m xs ≡ running_product m xs
unfolding running_product
product m [] = refl
product m (x ∷ xs) = λ t. option_and_then (λ k. product k xs t) (b.times m x)

product_same : (p : Prod) → b.product_bound p ≡ product_bound p
product_same p = product 1 (b.factors p)

product_passes : (m i : ℕ) (xs : List Factor) → b.passes w.factor_words b.times m i xs ≡ product_faults m i xs
unfolding product_faults
product_passes m i [] = refl
product_passes m i (x ∷ xs) = rw (factor_count x) (λ t. option_map_or (λ k. product_passes k (i + d.factor_width x + 1) xs t) (b.times m x) (row true i cause.ExprTooWide))

sum : (m : ℕ) (ps : List Prod) → b.running b.plus m ps ≡ running_sum m ps
unfolding running_sum
sum m [] = refl
sum m (p ∷ ps) = λ t. option_and_then (λ k. sum k ps t) (option_and_then (λ c. b.within (m + c)) (product_same p t))

sum_passes : (m i : ℕ) (ps : List Prod) → b.passes w.prod_words b.plus_fit m i ps ≡ sum_faults m i ps
unfolding sum_faults
sum_passes m i [] = refl
sum_passes m i (p ∷ ps) = rw (prod_count p) (λ t. option_map_or (λ k. sum_passes k (i + d.prod_width p + 1) ps t) (option_map_or (λ c. b.within (m + c)) (product_same p t) (Some m)) (row true i cause.ExprTooWide))

-- ---- expressions

column : (q : Query) (i : ℕ) (c : Column) → n.column_faults q i c ≡ column_faults q i c
unfolding column_faults
column q i c = ap (λ m. row (is_unknown_stream q c) i cause.UnknownStream ++ row (is_unknown_column q c) (i + m) cause.UnknownColumn ++ row (is_ambiguous q c) i cause.Ambiguous) (second_count c.second)

factor : (q : Query) (i : ℕ) (x : Factor) → n.factor_faults q i x ≡ factor_faults q i x
unfolding factor_faults
factor q i (f.Column c) = column q i c
factor q i (f.Number m) = refl
factor q i (f.Negative m) = refl

prod : (q : Query) (i : ℕ) (p : Prod) → n.prod_faults q i p ≡ prod_faults q i p
unfolding prod_faults
prod q i p = λ t. parts w.factor_words d.factor_width (λ k. n.factor_faults q) (λ k. factor_faults q) factor_count (λ k. factor q) 0 i (b.factors p) t ++ product_passes 1 i (b.factors p) t

expr : (q : Query) (i : ℕ) (e : Expr) → n.expr_faults q i e ≡ expr_faults q i e
unfolding expr_faults
expr q i e = λ t. parts w.prod_words d.prod_width (λ k. n.prod_faults q) (λ k. prod_faults q) prod_count (λ k. prod q) 0 i (b.products e) t ++ sum_passes 0 i (b.products e) t

-- ---- items

wide : (e : Expr) → n.is_sum_wide e ≡ is_sum_wide e
wide e = ap (λ (o : Option ℕ). option_map_or (nat_lt (2 ^ 86)) o false) (sum 0 (b.products e))

content : (q : Query) (i : ℕ) (x : Item) → n.content_faults q i x ≡ content_faults q i x
content q i Count = refl
content q i (Sum e) = λ t. row (wide e t) i cause.SumTooWide ++ expr q (i + 2) e t
content q i (Min e) = expr q (i + 2) e
content q i (Max e) = expr q (i + 2) e
content q i (Value e) = λ t. row (n.is_group q && not (n.is_key q e)) i cause.NotGrouped ++ expr q i e t

item : (q : Query) (k i : ℕ) (x : Item) → n.item_faults q k i x ≡ item_faults q k i x
unfolding item_faults
item q k i x = λ t. row (k == 32) i cause.TooMany ++ row (n.is_join q && n.is_aggregate x) i cause.Shape ++ content q i x t

-- ---- declarations, and lists of columns

declared_count : (x : Decl) → length (w.declared_words x) ≡ d.decl_width x
declared_count x = omega (arith, decl_count x)

decl : (q : Query) (k i : ℕ) (x : Decl) → n.decl_faults q k i x ≡ decl_faults q k i x
unfolding decl_faults
decl q k i x = λ t.
    row (k == 8) i cause.TooMany
    ++ row (names_stream (take k (decls q)) x.name) (i + 1) cause.DuplicateName
    ++ parts w.name_words d.name_width (n.column_name_faults x) (n.column_name_faults x) name_count (λ l j y. refl) 0 (i + 3) (names x) t

key : (q : Query) (g : Keys) (k i : ℕ) (c : Column) → n.key_faults q g k i c ≡ key_faults q g k i c
unfolding key_faults
key q g k i c = λ t. row (k == 8) i cause.TooMany ++ row (n.among_columns q c (take k (n.keys g))) i cause.DuplicateName ++ column q i c t

keys : (q : Query) (g : Keys) (i : ℕ) → n.keys_faults q g i ≡ keys_faults q g i
keys q g i = parts w.column_words d.column_width (n.key_faults q g) (key_faults q g) column_count (key q g) 0 i (n.keys g)

-- ---- windows and streams

measure : (q : Query) (i j : ℕ) (m : Measure) → i ≡ j + 1 → option_map_or (λ g. n.keys_faults q g (j + 3)) (n.measure_keys m) [] ≡ measure_faults q i m
measure q i j Rows e = refl
measure q i j Range e = refl
measure q i j (Partition g) e = let k : j + 3 ≡ i + 2 = omega (arith, e) in ap (n.keys_faults q g) k ∙ keys q g (i + 2)

window : (q : Query) (i : ℕ) (x : Window) → n.window_faults q i x ≡ window_faults q i x
unfolding window_faults
window q i x = λ t. measure q (i + 1) i x.measure refl t ++ n.sizes_faults (n.most_windows q) (i + 1 + measure_count x.measure t) x

windows : (q : Query) (i : ℕ) (o : Option Window) → option_map_or (n.window_faults q i) o [] ≡ option_map_or (window_faults q i) o []
windows q i None = refl
windows q i (Some x) = window q i x

source : (q : Query) (i : ℕ) (x : Source) → n.source_faults q i x ≡ source_faults q i x
unfolding source_faults
source q i x = λ t. n.stream_faults q i x ++ windows q (i + 1) x.window t

second : (q : Query) (i : ℕ) (x : Source) → n.second_faults q i x ≡ second_faults q i x
unfolding second_faults
second q i x = λ t. row (same q.from.name x.name) i cause.DuplicateName ++ row (n.is_apart q.from.window x.window) (i + 1) cause.Shape ++ source q i x t

-- ---- predicates

mutual
  unfolding test_faults

  test : (q : Query) (i : ℕ) (x : Test) → n.test_faults q i x ≡ test_faults q i x
  test q i (negated x) = test q (i + 1) x
  test q i (enclosed x a o) = rw (test_count x, ands_count a) (λ t. test q (i + 1) x t ++ ands q (i + 1 + d.test_width x) a t ++ ors q (i + 1 + d.test_width x + d.ands_width a) o t)
  test q i (compare x c y) = rw (expr_count x) (λ t. expr q i x t ++ expr q (i + d.expr_width x + 1) y t)

  ands : (q : Query) (i : ℕ) (a : Ands) → n.ands_faults q i a ≡ ands_faults q i a
  ands q i no_more = refl
  ands q i (and_also x a) = rw (test_count x) (λ t. test q (i + 1) x t ++ ands q (i + 1 + d.test_width x) a t)

  ors : (q : Query) (i : ℕ) (o : Ors) → n.ors_faults q i o ≡ ors_faults q i o
  ors q i no_other = refl
  ors q i (or_else x a o) = rw (test_count x, ands_count a) (λ t. test q (i + 1) x t ++ ands q (i + 1 + d.test_width x) a t ++ ors q (i + 1 + d.test_width x + d.ands_width a) o t)

-- ---- the whole

second_part : (q : Query) (i : ℕ) (o : Option Source) → option_map_or (n.second_faults q (i + 1)) o [] ≡ option_map_or (second_faults q (i + 1)) o []
second_part q i None = refl
second_part q i (Some x) = second q (i + 1) x

where_part : (q : Query) (i : ℕ) (o : Option Tests) → option_map_or (λ (t : Tests). n.test_faults q i (enclosed t.first t.ands t.ors)) o [] ≡ option_map_or (λ (t : Tests). test_faults q (i + 1) t.first ++ ands_faults q (i + 1 + d.test_width t.first) t.ands ++ ors_faults q (i + 1 + d.test_width t.first + d.ands_width t.ands) t.ors) o []
unfolding test_faults
where_part q i None = refl
where_part q i (Some x) = test q i (enclosed x.first x.ands x.ors)

group_part : (q : Query) (i : ℕ) (o : Option Keys) → option_map_or (λ (g : Keys). row (n.is_join q) i cause.Shape ++ n.keys_faults q g (i + 2)) o [] ≡ option_map_or (group_faults q i) o []
unfolding group_faults
group_part q i None = refl
group_part q i (Some g) = λ t. row (n.is_join q) i cause.Shape ++ keys q g (i + 2) t

three_count : (xs ys zs : List Token) → length (xs ++ ys ++ zs) ≡ length xs + length ys + length zs
three_count xs ys zs = omega (arith, length-append (xs ++ ys) zs, length-append xs ys, length-append xs (ys ++ zs), length-append ys zs)

-- where the parts begin
abbrev select_there : Query → ℕ
select_there q = length (w.decl_words q.decl ++ w.decls_words q.decls ++ w.opened_words q.word)

abbrev from_there : Query → ℕ
from_there q = select_there q + length (w.outputs_words q.item q.items)

abbrev second_there : Query → ℕ
second_there q = from_there q + 1 + length (w.source_words q.from)

abbrev where_there : Query → ℕ
where_there q = second_there q + length (w.second_source_words q.second)

abbrev group_there : Query → ℕ
group_there q = where_there q + length (w.where_words q.predicate)

select_place : (q : Query) → select_there q ≡ select_at q
select_place q =
    let e : length (w.decl_words q.decl) + length (w.decls_words q.decls) + length (w.opened_words q.word) ≡ select_at q = omega (arith, decl_count q.decl, decls_count q.decls, opened_count q.word) in
    three_count (w.decl_words q.decl) (w.decls_words q.decls) (w.opened_words q.word) ∙ e

from_place : (q : Query) → from_there q ≡ from_at q
from_place q =
    let e : length (w.outputs_words q.item q.items) ≡ 1 + d.item_width q.item + d.span d.item_width q.items = omega (arith, length-append (w.item_words q.item) (w.items_words q.items), item_count q.item, each_count (Mark s.Comma) w.item_words d.item_width item_count q.items) in
    let both : select_at q + (1 + d.item_width q.item + d.span d.item_width q.items) ≡ from_at q = omega arith in
    (λ t. select_place q t + e t) ∙ both

second_place : (q : Query) → second_there q ≡ second_at q
second_place q = λ t. from_place q t + 1 + source_count q.from t

where_place : (q : Query) → where_there q ≡ where_at q
where_place q = λ t. second_place q t + second_source_count q.second t

group_place : (q : Query) → group_there q ≡ group_at q
group_place q = λ t. where_place q t + where_count q.predicate t

items_part : (q : Query) → n.each w.item_words (n.item_faults q) 0 (select_there q + 1) (n.items q) ≡ each d.item_width (item_faults q) 0 (select_at q + 1) (n.items q)
items_part q = ap (λ i. n.each w.item_words (n.item_faults q) 0 (i + 1) (n.items q)) (select_place q) ∙ parts w.item_words d.item_width (n.item_faults q) (item_faults q) item_count (item q) 0 (select_at q + 1) (n.items q)

-- all that is wrong with a query is what a walk over it finds
pub same_faults : (q : Query) → n.faults q ≡ faults q
unfolding faults
same_faults q =
    let one = parts w.declared_words d.decl_width (n.decl_faults q) (decl_faults q) declared_count (decl q) 0 0 (decls q) in
    let two = items_part q in
    let three = ap (λ i. n.source_faults q (i + 1) q.from) (from_place q) ∙ source q (from_at q + 1) q.from in
    let four = ap (λ i. option_map_or (n.second_faults q (i + 1)) q.second []) (second_place q) ∙ second_part q (second_at q) q.second in
    let five = ap (λ i. option_map_or (λ (x : Tests). n.test_faults q i (enclosed x.first x.ands x.ors)) q.predicate []) (where_place q) ∙ where_part q (where_at q) q.predicate in
    let six = ap (λ i. option_map_or (λ (g : Keys). row (n.is_join q) i cause.Shape ++ n.keys_faults q g (i + 2)) q.group []) (group_place q) ∙ group_part q (group_at q) q.group in
    λ t. one t ++ two t ++ three t ++ four t ++ five t ++ six t
