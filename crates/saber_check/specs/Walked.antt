-- The faults of a query as a walk over it finds them: those of specs/Faults.antt, with the widths of parts in place of their words.
-- The walk's code speaks of these; `same_faults` of proofs/WalkedLaws.antt says that they are the same.
use Rattle.std.specs.Prelude.{ℕ, ◌+◌, ◌*◌, ◌^◌, ◌==◌, map, List, [], ◌∷◌, ◌++◌, take, Bool, true, false, not, ◌&&◌, nat_lt, Option, Some, option_and_then}
use Rattle.std.specs.Option.{option_map_or}
use Rattle.saber_query.specs.declared.tree.Column.{Column}
use Rattle.saber_query.specs.declared.tree.Factor.{Factor}
use Rattle.saber_query.specs.declared.tree.Factor.TheVariants as f
use Rattle.saber_query.specs.declared.tree.Prod.{Prod}
use Rattle.saber_query.specs.declared.tree.Term.{Term}
use Rattle.saber_query.specs.declared.tree.Expr.{Expr}
use Rattle.saber_query.specs.declared.tree.Item.{Item}
use Rattle.saber_query.specs.declared.tree.Item.TheVariants.{Count, Sum, Min, Max, Value}
use Rattle.saber_query.specs.declared.tree.Measure.{Measure}
use Rattle.saber_query.specs.declared.tree.Measure.TheVariants.{Rows, Range, Partition}
use Rattle.saber_query.specs.declared.tree.Window.{Window}
use Rattle.saber_query.specs.declared.tree.Source.{Source}
use Rattle.saber_query.specs.declared.tree.Keys.{Keys}
use Rattle.saber_query.specs.declared.tree.Decl.{Decl}
use Rattle.saber_check.specs.declared.fault.Fault.{Fault}
use Rattle.saber_query.specs.declared.fault.Cause.TheVariants as cause
use Rattle.saber_query.specs.Trees.{Test, negated, enclosed, compare, Ands, no_more, and_also, Ors, no_other, or_else, Tests, Both, Query}
use Rattle.saber_check.specs.Widths.{column_width, factor_width, prod_width, expr_width, item_width, source_width, second_source_width, second_width, measure_width, test_width, ands_width, where_width, decl_width, name_width, opened_width, shut_width, group_width, span}
use Rattle.saber_check.specs.Names.{decls, names, names_stream, is_unknown_stream, is_unknown_column, is_ambiguous, same}
use Rattle.saber_check.specs.Bounds.{factor_bound, within, factors, products}
use Rattle.saber_check.specs.Faults.{is_aggregate, items, is_join, is_group, among_columns, keys, is_key, column_name_faults, most_windows, sizes_faults, stream_faults, is_apart}
use Rattle.saber_check.specs.Least.{row, each}

-- the bound of a product, none where a running product passes the limit
unfoldable pub running_product : ℕ → List Factor → Option ℕ
running_product n [] = Some n
running_product n (f ∷ fs) = option_and_then (λ m. running_product m fs) (within (n * factor_bound f))

-- the bound of a whole product
abbrev pub product_bound : Prod → Option ℕ
product_bound p = running_product 1 (factors p)

-- a fault at the part that passes the limit
abbrev pub too_wide : ℕ → List Fault
too_wide i = record { index = i; cause = cause.ExprTooWide } ∷ []

-- the factor at which the running product passes the limit
unfoldable pub product_faults : ℕ → ℕ → List Factor → List Fault
product_faults n i [] = []
product_faults n i (f ∷ fs) = option_map_or (λ m. product_faults m (i + factor_width f + 1) fs) (within (n * factor_bound f)) (too_wide i)

-- the product at which the running sum of the products' bounds passes the limit; a product that passes it by itself counts for nothing
unfoldable pub sum_faults : ℕ → ℕ → List Prod → List Fault
sum_faults n i [] = []
sum_faults n i (p ∷ ps) = option_map_or (λ m. sum_faults m (i + prod_width p + 1) ps) (option_map_or (λ b. within (n + b)) (product_bound p) (Some n)) (too_wide i)

-- the products of terms
abbrev pub prods : List Term → List Prod
prods ts = map (λ (t : Term). t.prod) ts

-- the bound of a sum of products, none where it or a product passes the limit
unfoldable pub running_sum : ℕ → List Prod → Option ℕ
running_sum n [] = Some n
running_sum n (p ∷ ps) = option_and_then (λ m. running_sum m ps) (option_and_then (λ b. within (n + b)) (product_bound p))

-- the bound of an expression
abbrev pub expr_bound : Expr → Option ℕ
expr_bound e = running_sum 0 (products e)

-- a column: its stream is none of FROM, its name is none of that stream's columns, or of both streams'
unfoldable pub column_faults : Query → ℕ → Column → List Fault
column_faults q i c =
    row (is_unknown_stream q c) i cause.UnknownStream
    ++ row (is_unknown_column q c) (i + second_width c.second) cause.UnknownColumn
    ++ row (is_ambiguous q c) i cause.Ambiguous

-- the number that only its own minus makes small enough
unfoldable pub factor_faults : Query → ℕ → Factor → List Fault
factor_faults q i (f.Column c) = column_faults q i c
factor_faults q i (f.Number n) = row (n == 9223372036854775808) i cause.NumberRange
factor_faults q i (f.Negative n) = []

-- its factors, and where it gets too wide
unfoldable pub prod_faults : Query → ℕ → Prod → List Fault
prod_faults q i p = each factor_width (λ k. factor_faults q) 0 i (factors p) ++ product_faults 1 i (factors p)

-- its products, and where their sum gets too wide
unfoldable pub expr_faults : Query → ℕ → Expr → List Fault
expr_faults q i e = each prod_width (λ k. prod_faults q) 0 i (products e) ++ sum_faults 0 i (products e)

-- the bound of a SUM's argument passes its own limit
abbrev pub is_sum_wide : Expr → Bool
is_sum_wide e = option_map_or (nat_lt (2 ^ 86)) (expr_bound e) false

-- an aggregate's argument stands two words behind its keyword; a SUM has a limit of its own, and a group query's other items must be keys
abbrev pub content_faults : Query → ℕ → Item → List Fault
content_faults q i Count = []
content_faults q i (Sum e) = row (is_sum_wide e) i cause.SumTooWide ++ expr_faults q (i + 2) e
content_faults q i (Min e) = expr_faults q (i + 2) e
content_faults q i (Max e) = expr_faults q (i + 2) e
content_faults q i (Value e) = row (is_group q && not (is_key q e)) i cause.NotGrouped ++ expr_faults q i e

-- at most 32 items; a join has no aggregate
unfoldable pub item_faults : Query → ℕ → ℕ → Item → List Fault
item_faults q k i x = row (k == 32) i cause.TooMany ++ row (is_join q && is_aggregate x) i cause.Shape ++ content_faults q i x

-- those of all items, the first at i
abbrev pub items_faults : Query → ℕ → List Fault
items_faults q i = each item_width (item_faults q) 0 i (items q)

-- at most 8 declarations, each name once
unfoldable pub decl_faults : Query → ℕ → ℕ → Decl → List Fault
decl_faults q k i d =
    row (k == 8) i cause.TooMany
    ++ row (names_stream (take k (decls q)) d.name) (i + 1) cause.DuplicateName
    ++ each name_width (column_name_faults d) 0 (i + 3) (names d)

-- those of all declarations, the first at i
abbrev pub decls_faults : Query → ℕ → List Fault
decls_faults q i = each decl_width (decl_faults q) 0 i (decls q)

-- at most 8 columns in GROUP BY or PARTITION BY, each once
unfoldable pub key_faults : Query → Keys → ℕ → ℕ → Column → List Fault
key_faults q g k i c = row (k == 8) i cause.TooMany ++ row (among_columns q c (take k (keys g))) i cause.DuplicateName ++ column_faults q i c

-- those of all its columns, the first at i
abbrev pub keys_faults : Query → Keys → ℕ → List Fault
keys_faults q g i = each column_width (key_faults q g) 0 i (keys g)

-- the columns of PARTITION BY
abbrev pub measure_faults : Query → ℕ → Measure → List Fault
measure_faults q i Rows = []
measure_faults q i Range = []
measure_faults q i (Partition g) = keys_faults q g (i + 2)

-- i is the index of its bracket
unfoldable pub window_faults : Query → ℕ → Window → List Fault
window_faults q i w = measure_faults q (i + 1) w.measure ++ sizes_faults (most_windows q) (i + 1 + measure_width w.measure) w

-- and what is wrong with its window
unfoldable pub source_faults : Query → ℕ → Source → List Fault
source_faults q i s =
    stream_faults q i s
    ++ option_map_or (window_faults q (i + 1)) s.window []

-- the second stream of FROM is another than the first, and their windows pair
unfoldable pub second_faults : Query → ℕ → Source → List Fault
second_faults q i s = row (same q.from.name s.name) i cause.DuplicateName ++ row (is_apart q.from.window s.window) (i + 1) cause.Shape ++ source_faults q i s

-- the two sides of a comparison, with its sign between them
abbrev pub sides_faults : Query → ℕ → Expr → Expr → List Fault
sides_faults q i x y = expr_faults q i x ++ expr_faults q (i + expr_width x + 1) y

unfoldable mutual
  pub test_faults : Query → ℕ → Test → List Fault
  test_faults q i (negated t) = test_faults q (i + 1) t
  test_faults q i (enclosed t a o) = test_faults q (i + 1) t ++ ands_faults q (i + 1 + test_width t) a ++ ors_faults q (i + 1 + test_width t + ands_width a) o
  test_faults q i (compare x c y) = sides_faults q i x y

  pub ands_faults : Query → ℕ → Ands → List Fault
  ands_faults q i no_more = []
  ands_faults q i (and_also t a) = test_faults q (i + 1) t ++ ands_faults q (i + 1 + test_width t) a

  pub ors_faults : Query → ℕ → Ors → List Fault
  ors_faults q i no_other = []
  ors_faults q i (or_else t a o) = test_faults q (i + 1) t ++ ands_faults q (i + 1 + test_width t) a ++ ors_faults q (i + 1 + test_width t + ands_width a) o

-- units joined by AND, and those joined by OR
abbrev pub both_faults : Query → ℕ → Both → List Fault
both_faults q i b = test_faults q i b.first ++ ands_faults q (i + test_width b.first) b.ands

abbrev pub tests_faults : Query → ℕ → Tests → List Fault
tests_faults q i t = test_faults q i t.first ++ ands_faults q (i + test_width t.first) t.ands ++ ors_faults q (i + test_width t.first + ands_width t.ands) t.ors

-- i is the index of the word GROUP, which no join has
unfoldable pub group_faults : Query → ℕ → Keys → List Fault
group_faults q i g = row (is_join q) i cause.Shape ++ keys_faults q g (i + 2)

-- where SELECT, FROM, what is behind the first stream, WHERE and GROUP stand
abbrev pub select_at : Query → ℕ
select_at q = decl_width q.decl + span decl_width q.decls + 1 + opened_width q.word

abbrev pub from_at : Query → ℕ
from_at q = select_at q + 1 + item_width q.item + span item_width q.items

abbrev pub second_at : Query → ℕ
second_at q = from_at q + 1 + source_width q.from

abbrev pub where_at : Query → ℕ
where_at q = second_at q + second_source_width q.second

abbrev pub group_at : Query → ℕ
group_at q = where_at q + where_width q.predicate

-- what is behind the first stream, and WHERE and GROUP BY with what they say
abbrev pub second_part_faults : Query → ℕ → List Fault
second_part_faults q i = option_map_or (second_faults q (i + 1)) q.second []

abbrev pub where_faults : Query → ℕ → List Fault
where_faults q i = option_map_or (tests_faults q (i + 1)) q.predicate []

abbrev pub group_part_faults : Query → ℕ → List Fault
group_part_faults q i = option_map_or (group_faults q i) q.group []

-- all that is wrong with the query
unfoldable pub faults : Query → List Fault
faults q =
    decls_faults q 0
    ++ items_faults q (select_at q + 1)
    ++ source_faults q (from_at q + 1) q.from
    ++ second_part_faults q (second_at q)
    ++ where_faults q (where_at q)
    ++ group_part_faults q (group_at q)

-- a last semicolon is a word
abbrev pub closed_width : Bool → ℕ
closed_width false = 0
closed_width true = 1

-- how many words there are
abbrev pub width : Query → ℕ
width q = group_at q + group_width q.group + shut_width q.word + closed_width q.closed
