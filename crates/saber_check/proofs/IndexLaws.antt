-- Each fault of a query stands at one of its words.
use Rattle.std.proofs.Common.{◌≡◌, ℕ, ◌+◌, ◌*◌, ◌<◌, ◌≤◌, List, [], ◌∷◌, ◌++◌, Contains, Option, Some, None, Bool, true, false, ◌&&◌, not, ◌==◌, take, refl, arith, is_some, option_and_then}
use Rattle.std.specs.List.{AllByRecursion}
use Rattle.std.specs.Option.{option_map_or}
use Rattle.saber_query.specs.declared.fault.Cause.{Cause}
use Rattle.saber_query.specs.declared.fault.Cause.TheVariants as cause
use Rattle.saber_query.specs.declared.tree.Column.{Column}
use Rattle.saber_query.specs.declared.tree.Factor.{Factor}
use Rattle.saber_query.specs.declared.tree.Factor.TheVariants as f
use Rattle.saber_query.specs.declared.tree.Prod.{Prod}
use Rattle.saber_query.specs.declared.tree.Term.{Term}
use Rattle.saber_query.specs.declared.tree.Expr.{Expr}
use Rattle.saber_query.specs.declared.tree.Item.{Item}
use Rattle.saber_query.specs.declared.tree.Item.TheVariants.{Count, Sum, Min, Max, Value}
use Rattle.saber_query.specs.declared.tree.Measure.{Measure}
use Rattle.saber_query.specs.declared.tree.Measure.TheVariants.{Rows, Range, Partition}
use Rattle.saber_query.specs.declared.tree.Window.{Window}
use Rattle.saber_query.specs.declared.tree.Source.{Source}
use Rattle.saber_query.specs.declared.tree.Keys.{Keys}
use Rattle.saber_query.specs.declared.tree.Decl.{Decl}
use Rattle.saber_query.specs.Trees.{Query, Test, negated, enclosed, compare, Ands, no_more, and_also, Ors, no_other, or_else, Tests}
use Rattle.saber_check.specs.declared.fault.Fault.{Fault}
use Rattle.saber_check.specs.Least.{row, each}
use Rattle.saber_check.specs.Widths.{name_width, second_width, column_width, factor_width, prod_width, term_width, expr_width, item_width, measure_width, window_width, source_width, second_source_width, test_width, ands_width, ors_width, where_width, decl_width, group_width, span}
use Rattle.saber_check.specs.Names.{names, decls, same, among, names_stream, is_declared, is_unknown_stream, is_unknown_column, is_ambiguous}
use Rattle.saber_check.specs.Bounds.{within, factor_bound, factors, products}
use Rattle.saber_check.specs.Walked.{product_bound, product_faults, sum_faults, too_wide, prods, column_faults, factor_faults, prod_faults, expr_faults, content_faults, item_faults, decl_faults, measure_faults, window_faults, source_faults, second_faults, is_sum_wide, test_faults, ands_faults, ors_faults, tests_faults, key_faults, group_faults, select_at, from_at, second_at, where_at, group_at, faults, width}
use Rattle.saber_check.specs.Faults.{column_name_faults, sizes_faults, is_group, is_key, is_join, is_aggregate, is_out, most_windows, is_overlapping, has_windows, may_partition, measure_keys, among_columns, is_apart, keys, items}
use Rattle.saber_check.proofs.FirstLaws.{every}

-- the faults stand before this word
record Before (n : ℕ) (fs : List Fault) : Type 0 where
  all : AllByRecursion (λ (f : Fault). f.index < n) fs

nothing : (n : ℕ) → Before n []
nothing n = record { all = tt }

append : {n : ℕ} {xs ys : List Fault} → Before n xs → Before n ys → Before n (xs ++ ys)
append {n} {xs} {ys} a b = record { all = every xs a.all }
  where
    every : (zs : List Fault) → AllByRecursion (λ (f : Fault). f.index < n) zs → AllByRecursion (λ (f : Fault). f.index < n) (zs ++ ys)
    every [] h = b.all
    every (z ∷ zs) h = (h.0, every zs h.1)

more : {m : ℕ} {xs : List Fault} (n : ℕ) → Before m xs → m ≤ n → Before n xs
more {m} {xs} n a r = record { all = every xs a.all }
  where
    every : (zs : List Fault) → AllByRecursion (λ (f : Fault). f.index < m) zs → AllByRecursion (λ (f : Fault). f.index < n) zs
    every [] h = tt
    every (z ∷ zs) h = (omega (arith, h.0), every zs h.1)

at_row : (n i : ℕ) (b : Bool) (c : Cause) → i < n → Before n (row b i c)
at_row n i true c h = record { all = (h, tt) }
at_row n i false c h = record { all = tt }

-- parts one after the other, with a word between
parts : {X : Type 0} (width : X → ℕ) (faults : ℕ → ℕ → X → List Fault) → ((k i : ℕ) (x : X) → Before (i + width x) (faults k i x)) → (k i n : ℕ) (xs : List X) → i + span width xs ≤ n + 1 → Before n (each width faults k i xs)
unfolding each
parts width faults h k i n [] r = nothing n
parts width faults h k i n (x ∷ xs) r = append (more n (h k i x) (omega arith)) (parts width faults h (k + 1) (i + width x + 1) n xs (omega arith))

-- ---- expressions

column : (q : Query) (i : ℕ) (c : Column) → Before (i + column_width c) (column_faults q i c)
unfolding column_faults
column q i c =
    let n = i + column_width c in
    append (append (at_row n i (is_unknown_stream q c) cause.UnknownStream (omega arith)) (at_row n (i + second_width c.second) (is_unknown_column q c) cause.UnknownColumn (omega arith))) (at_row n i (is_ambiguous q c) cause.Ambiguous (omega arith))

factor : (q : Query) (i : ℕ) (x : Factor) → Before (i + factor_width x) (factor_faults q i x)
unfolding factor_faults
factor q i (f.Column c) = column q i c
factor q i (f.Number n) = at_row (i + 1) i (n == 9223372036854775808) cause.NumberRange (omega arith)
factor q i (f.Negative n) = nothing (i + 2)

wide_factor : (x : Factor) → 1 ≤ factor_width x
wide_factor (f.Column c) = omega arith
wide_factor (f.Number n) = omega arith
wide_factor (f.Negative n) = omega arith

product : (n i m : ℕ) (fs : List Factor) → i + span factor_width fs ≤ m + 1 → Before m (product_faults n i fs)
unfolding product_faults
product n i m [] r = nothing m
product n i m (x ∷ xs) r = elim (within (n * factor_bound x)) as (λ o. Before m (option_map_or (λ b. product_faults b (i + factor_width x + 1) xs) o (too_wide i))) [
  | None ↦ record { all = (omega (arith, wide_factor x), tt) }
  | Some b ↦ product b (i + factor_width x + 1) m xs (omega arith)
]

prod : (q : Query) (i : ℕ) (p : Prod) → Before (i + prod_width p) (prod_faults q i p)
unfolding prod_faults
prod q i p =
    let n = i + prod_width p in
    append (parts factor_width (λ k. factor_faults q) (λ k. factor q) 0 i n (factors p) (omega arith)) (product 1 i n (factors p) (omega arith))

sum : (n i m : ℕ) (ps : List Prod) → i + span prod_width ps ≤ m + 1 → Before m (sum_faults n i ps)
unfolding sum_faults
sum n i m [] r = nothing m
sum n i m (p ∷ ps) r = elim (option_map_or (λ b. within (n + b)) (product_bound p) (Some n)) as (λ o. Before m (option_map_or (λ b. sum_faults b (i + prod_width p + 1) ps) o (too_wide i))) [
  | None ↦ record { all = (omega (arith, wide_factor p.first), tt) }
  | Some b ↦ sum b (i + prod_width p + 1) m ps (omega arith)
]

span_prods : (ts : List Term) → span prod_width (prods ts) ≡ span term_width ts
span_prods [] = refl
span_prods (t ∷ ts) = omega (arith, span_prods ts)

expr : (q : Query) (i : ℕ) (e : Expr) → Before (i + expr_width e) (expr_faults q i e)
unfolding expr_faults
expr q i e =
    let n = i + expr_width e in
    let r : i + span prod_width (products e) ≤ n + 1 = omega (arith, span_prods e.more) in
    append (parts prod_width (λ k. prod_faults q) (λ k. prod q) 0 i n (products e) r) (sum 0 i n (products e) r)

wide_expr : (e : Expr) → 1 ≤ expr_width e
wide_expr e = omega (arith, wide_factor e.first.first)

-- ---- items and declarations

argument : (q : Query) (i : ℕ) (e : Expr) → Before (i + (3 + expr_width e)) (expr_faults q (i + 2) e)
argument q i e = more (i + (3 + expr_width e)) (expr q (i + 2) e) (omega arith)

content : (q : Query) (i : ℕ) (x : Item) → Before (i + item_width x) (content_faults q i x)
content q i Count = nothing (i + 4)
content q i (Sum e) = append (at_row (i + (3 + expr_width e)) i (is_sum_wide e) cause.SumTooWide (omega arith)) (argument q i e)
content q i (Min e) = argument q i e
content q i (Max e) = argument q i e
content q i (Value e) = append (at_row (i + expr_width e) i (is_group q && not (is_key q e)) cause.NotGrouped (omega (arith, wide_expr e))) (expr q i e)

wide_item : (x : Item) → 1 ≤ item_width x
wide_item Count = omega arith
wide_item (Sum e) = omega arith
wide_item (Min e) = omega arith
wide_item (Max e) = omega arith
wide_item (Value e) = wide_expr e

item : (q : Query) (k i : ℕ) (x : Item) → Before (i + item_width x) (item_faults q k i x)
unfolding item_faults
item q k i x =
    let n = i + item_width x in
    let h : i < n = omega (arith, wide_item x) in
    append (append (at_row n i (k == 32) cause.TooMany h) (at_row n i (is_join q && is_aggregate x) cause.Shape h)) (content q i x)

column_name : (d : Decl) (k i : ℕ) (n : List ℕ) → Before (i + name_width n) (column_name_faults d k i n)
unfolding column_name_faults
column_name d k i n = append (at_row (i + 1) i (k == 32) cause.TooMany (omega arith)) (at_row (i + 1) i (among n (take k (names d))) cause.DuplicateName (omega arith))

decl : (q : Query) (k i : ℕ) (d : Decl) → Before (i + decl_width d) (decl_faults q k i d)
unfolding decl_faults
decl q k i d =
    let n = i + decl_width d in
    append (append (at_row n i (k == 8) cause.TooMany (omega arith)) (at_row n (i + 1) (names_stream (take k (decls q)) d.name) cause.DuplicateName (omega arith))) (parts name_width (column_name_faults d) (column_name d) 0 (i + 3) n (names d) (omega arith))

-- ---- streams

key : (q : Query) (g : Keys) (k i : ℕ) (c : Column) → Before (i + column_width c) (key_faults q g k i c)
unfolding key_faults
key q g k i c =
    let n = i + column_width c in
    append (append (at_row n i (k == 8) cause.TooMany (omega arith)) (at_row n i (among_columns q c (take k (keys g))) cause.DuplicateName (omega arith))) (column q i c)

measure : (q : Query) (i : ℕ) (m : Measure) → Before (i + measure_width m) (measure_faults q i m)
measure q i Rows = nothing (i + 1)
measure q i Range = nothing (i + 1)
measure q i (Partition g) = parts column_width (key_faults q g) (key q g) 0 (i + 2) (i + measure_width (Partition g)) (keys g) (omega arith)

sizes : (most i : ℕ) (w : Window) → Before (i + 4) (sizes_faults most i w)
sizes most i w =
    let n = i + 4 in
    append (append (at_row n i (is_out w.size) cause.WindowRange (omega arith)) (at_row n (i + 2) (is_out w.slide) cause.WindowRange (omega arith))) (at_row n i (is_overlapping most w) cause.Overlap (omega arith))

window : (q : Query) (i : ℕ) (w : Window) → Before (i + (5 + measure_width w.measure)) (window_faults q i w)
unfolding window_faults
window q i w =
    let n = i + (5 + measure_width w.measure) in
    append (more n (measure q (i + 1) w.measure) (omega arith)) (more n (sizes (most_windows q) (i + 1 + measure_width w.measure) w) (omega arith))

windowed : (q : Query) (i : ℕ) (s : List ℕ) (o : Option Window) →
    Before (i + (1 + window_width o)) (row (not (is_declared q s)) i cause.UnknownStream ++ row (is_some o && not (has_windows q)) (i + 1) cause.Shape ++ row (has_windows q && not (is_some o)) i cause.Shape
    ++ row (is_some (option_and_then (λ (w : Window). measure_keys w.measure) o) && not (may_partition q)) (i + 1) cause.Shape
    ++ option_map_or (window_faults q (i + 1)) o [])
windowed q i s None =
    let n = i + 1 in
    append (append (append (append (at_row n i (not (is_declared q s)) cause.UnknownStream (omega arith)) (nothing n)) (at_row n i (has_windows q && true) cause.Shape (omega arith))) (nothing n)) (nothing n)
windowed q i s (Some w) =
    let n = i + (1 + (5 + measure_width w.measure)) in
    append (append (append (append (at_row n i (not (is_declared q s)) cause.UnknownStream (omega arith)) (at_row n (i + 1) (not (has_windows q)) cause.Shape (omega arith))) (at_row n i (has_windows q && false) cause.Shape (omega arith)))
    (at_row n (i + 1) (is_some (measure_keys w.measure) && not (may_partition q)) cause.Shape (omega arith))) (more n (window q (i + 1) w) (omega arith))

source : (q : Query) (i : ℕ) (s : Source) → Before (i + source_width s) (source_faults q i s)
unfolding source_faults
source q i s = windowed q i s.name s.window

-- no windows are apart where the second stream has none
apart : (n i : ℕ) (v w : Option Window) → i + 1 + window_width w ≤ n → Before n (row (is_apart v w) (i + 1) cause.Shape)
apart n i None w r = nothing n
apart n i (Some v) None r = nothing n
apart n i (Some v) (Some w) r = at_row n (i + 1) (is_apart (Some v) (Some w)) cause.Shape (omega arith)

second : (q : Query) (i : ℕ) (s : Source) → Before (i + source_width s) (second_faults q i s)
unfolding second_faults
second q i s =
    let n = i + source_width s in
    append (append (at_row n i (same q.from.name s.name) cause.DuplicateName (omega arith)) (apart n i q.from.window s.window (omega arith))) (source q i s)

-- ---- predicates

mutual
  unfolding test_faults

  test : (q : Query) (i : ℕ) (t : Test) → Before (i + test_width t) (test_faults q i t)
  test q i (negated t) = more (i + (1 + test_width t)) (test q (i + 1) t) (omega arith)
  test q i (enclosed t a o) =
      let n = i + test_width (enclosed t a o) in
      append (append (more n (test q (i + 1) t) (omega arith)) (more n (ands q (i + 1 + test_width t) a) (omega arith))) (more n (ors q (i + 1 + test_width t + ands_width a) o) (omega arith))
  test q i (compare x c y) =
      let n = i + test_width (compare x c y) in
      append (more n (expr q i x) (omega arith)) (more n (expr q (i + expr_width x + 1) y) (omega arith))

  ands : (q : Query) (i : ℕ) (a : Ands) → Before (i + ands_width a) (ands_faults q i a)
  ands q i no_more = nothing (i + 0)
  ands q i (and_also t a) =
      let n = i + ands_width (and_also t a) in
      append (more n (test q (i + 1) t) (omega arith)) (more n (ands q (i + 1 + test_width t) a) (omega arith))

  ors : (q : Query) (i : ℕ) (o : Ors) → Before (i + ors_width o) (ors_faults q i o)
  ors q i no_other = nothing (i + 0)
  ors q i (or_else t a o) =
      let n = i + ors_width (or_else t a o) in
      append (append (more n (test q (i + 1) t) (omega arith)) (more n (ands q (i + 1 + test_width t) a) (omega arith))) (more n (ors q (i + 1 + test_width t + ands_width a) o) (omega arith))

-- ---- the whole

group : (q : Query) (i : ℕ) (o : Option Keys) → Before (i + group_width o) (option_map_or (group_faults q i) o [])
unfolding group_faults
group q i None = nothing (i + 0)
group q i (Some g) =
    let n = i + group_width (Some g) in
    append (at_row n i (is_join q) cause.Shape (omega arith)) (parts column_width (key_faults q g) (key q g) 0 (i + 2) n (keys g) (omega arith))

second_part : (q : Query) (i : ℕ) (o : Option Source) → Before (i + second_source_width o) (option_map_or (second_faults q (i + 1)) o [])
second_part q i None = nothing (i + 0)
second_part q i (Some s) = more (i + (1 + source_width s)) (second q (i + 1) s) (omega arith)

where_part : (q : Query) (i : ℕ) (o : Option Tests) → Before (i + where_width o) (option_map_or (tests_faults q (i + 1)) o [])
where_part q i None = nothing (i + 0)
where_part q i (Some t) =
    let n = i + where_width (Some t) in
    append (append (more n (test q (i + 1) t.first) (omega arith)) (more n (ands q (i + 1 + test_width t.first) t.ands) (omega arith))) (more n (ors q (i + 1 + test_width t.first + ands_width t.ands) t.ors) (omega arith))

whole : (q : Query) → Before (width q) (faults q)
unfolding faults
whole q =
    let n = width q in
    append (append (append (append (append (parts decl_width (decl_faults q) (decl q) 0 0 n (decls q) (omega arith))
    (parts item_width (item_faults q) (item q) 0 (select_at q + 1) n (items q) (omega arith)))
    (more n (source q (from_at q + 1) q.from) (omega arith)))
    (more n (second_part q (second_at q) q.second) (omega arith)))
    (more n (where_part q (where_at q) q.predicate) (omega arith)))
    (more n (group q (group_at q) q.group) (omega arith))

pub fault_inside : (q : Query) (g : Fault) → Contains (faults q) g → g.index < width q
fault_inside q g m = every (λ (f : Fault). f.index < width q) (faults q) g (whole q).all m
