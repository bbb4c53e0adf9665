-- The items and the keys of a query without a fault fit its shape.
use Rattle.std.proofs.Common.{◌≡◌, ℕ, suc, ◌+◌, ◌<◌, ◌≤◌, ◌⊎◌, inl, inr, List, [], ◌∷◌, length, map, take, Contains, Bool, true, false, ◌&&◌, ◌||◌, not, ◌==◌, Option, Some, None, is_some, if◌then◌else◌, nat_lt, ◌^◌, refl, sym, ap, ◌∙◌, subst, arith}
use Rattle.std.specs.Option.{option_map_or}
use Rattle.std.specs.List.{AllByRecursion}
use Rattle.std.proofs.lemmas.List.{length-map}
use Rattle.std.proofs.lemmas.Bool.Decides.{nat_tests}
use Rattle.saber_plan.specs.declared.rows.Side.{Side}
use Rattle.saber_plan.specs.declared.rows.Side.TheVariants.{Left, Right}
use Rattle.saber_plan.specs.declared.expressions.Factor.TheVariants as plan
use Rattle.saber_plan.specs.declared.expressions.Product.{Product}
use Rattle.saber_plan.specs.declared.plans.Shape.TheVariants as shape
use Rattle.saber_plan.specs.declared.plans.Fold.TheVariants as fold
use Rattle.saber_plan.specs.Bounds.{sum_bound}
use Rattle.saber_plan.specs.Checked.{columns_on, HasColumn, ExprFits, IsKeyAmong, AggregateFits, AggregatesFit, group_width, ItemFits}
use Rattle.saber_query.specs.declared.fault.Cause.TheVariants as cause
use Rattle.saber_query.specs.declared.tree.Column.{Column}
use Rattle.saber_query.specs.declared.tree.Factor.{Factor}
use Rattle.saber_query.specs.declared.tree.Factor.TheVariants as f
use Rattle.saber_query.specs.declared.tree.Prod.{Prod}
use Rattle.saber_query.specs.declared.tree.Term.{Term}
use Rattle.saber_query.specs.declared.tree.Expr.{Expr}
use Rattle.saber_query.specs.declared.tree.Item.{Item}
use Rattle.saber_query.specs.declared.tree.Item.TheVariants.{Count, Sum, Min, Max, Value}
use Rattle.saber_query.specs.declared.tree.Source.{Source}
use Rattle.saber_query.specs.declared.tree.Keys.{Keys}
use Rattle.saber_query.specs.Trees.{Query}
use Rattle.saber_check.specs.declared.outputs.Output.{Output}
use Rattle.saber_check.specs.declared.outputs.Output.TheVariants as out
use Rattle.saber_check.specs.Least.{each}
use Rattle.saber_check.specs.Widths.{factor_width, prod_width, column_width, item_width}
use Rattle.saber_check.specs.Names.{same, decls, declares}
use Rattle.saber_check.specs.Bounds.{factors, products}
use Rattle.saber_check.specs.Walked.{prods, product_faults, sum_faults, column_faults, factor_faults, prod_faults, expr_faults, is_sum_wide, content_faults, item_faults, key_faults, keys_faults, group_faults, group_part_faults}
use Rattle.saber_check.specs.Faults.{own_name, same_second, same_words, is_of_one, same_column, among_columns, is_aggregate, any_aggregate, is_join, is_group, is_key, is_listed, partition_of, is_column_key, items, keys}
use Rattle.saber_check.specs.Plans.{is_left, place, plan_place, plan_side, plan_factor, plan_term, plan_expr, plan_stream, plan_shape, places, plan_keys, plan_partition, key_place, plan_value, plan_output, gathered_aggregates, printed_numbers, plan_outputs, plan_aggregates, plan_items, plan_tree, streams}
use Rattle.saber_check.proofs.NoFaults.{before, row_and, rows_and, first_part, other_parts, few, is_true, neither, not_both, same_names}
use Rattle.saber_check.proofs.ColumnLaws.{AreDeclared, Found, found, left_there, column_there}
use Rattle.saber_check.proofs.BoundLaws.{expr_law}
use Rattle.saber_check.proofs.OutputLaws.{items_count, aggregates_count, key_inside, no_place}

-- how many columns a side of the plan has
abbrev pub sides : Query → Side → ℕ
sides q = columns_on (map (plan_stream q) (streams q))

-- ---- expressions

factor_there : (q : Query) (i : ℕ) (x : Factor) → AreDeclared q → factor_faults q i x ≡ [] → HasColumn (sides q) (plan_factor q x)
unfolding factor_faults
factor_there q i (f.Column c) d e = column_there q c (found q i c d e)
factor_there q i (f.Number n) d e = tt
factor_there q i (f.Negative n) d e = tt

factors_there : (q : Query) (k i : ℕ) (xs : List Factor) → AreDeclared q → each factor_width (λ k. factor_faults q) k i xs ≡ [] → AllByRecursion (HasColumn (sides q)) (map (plan_factor q) xs)
factors_there q k i [] d e = tt
factors_there q k i (x ∷ xs) d e = (factor_there q i x d (first_part factor_width (λ k. factor_faults q) k i x xs e), factors_there q (k + 1) (i + factor_width x + 1) xs d (other_parts factor_width (λ k. factor_faults q) k i x xs e))

prod_there : (q : Query) (i : ℕ) (p : Prod) → AreDeclared q → prod_faults q i p ≡ [] → AllByRecursion (HasColumn (sides q)) (map (plan_factor q) (factors p))
unfolding prod_faults
prod_there q i p d e = factors_there q 0 i (factors p) d (before (each factor_width (λ k. factor_faults q) 0 i (factors p)) (product_faults 1 i (factors p)) e)

terms_there : (q : Query) (k i : ℕ) (ts : List Term) → AreDeclared q → each prod_width (λ k. prod_faults q) k i (prods ts) ≡ [] → AllByRecursion (λ (p : Product). AllByRecursion (HasColumn (sides q)) p.factors) (map (plan_term q) ts)
terms_there q k i [] d e = tt
terms_there q k i (t ∷ ts) d e = (prod_there q i t.prod d (first_part prod_width (λ k. prod_faults q) k i t.prod (prods ts) e), terms_there q (k + 1) (i + prod_width t.prod + 1) ts d (other_parts prod_width (λ k. prod_faults q) k i t.prod (prods ts) e))

pub expr_fits : (q : Query) (i : ℕ) (e : Expr) → AreDeclared q → expr_faults q i e ≡ [] → ExprFits (sides q) (plan_expr q e)
unfolding expr_faults
expr_fits q i e d h =
    let a = before (each prod_width (λ k. prod_faults q) 0 i (products e)) (sum_faults 0 i (products e)) h in
    record {
      there = (prod_there q i e.first d (first_part prod_width (λ k. prod_faults q) 0 i e.first (prods e.more) a), terms_there q 1 (i + prod_width e.first + 1) e.more d (other_parts prod_width (λ k. prod_faults q) 0 i e.first (prods e.more) a));
      small = (expr_law q i e h).fits;
    }

-- a SUM's argument that isn't too wide for a SUM
sum_small : (q : Query) (i : ℕ) (e : Expr) → expr_faults q i e ≡ [] → is_sum_wide e ≡ false → sum_bound 0 (plan_expr q e) ≤ 2 ^ 86
sum_small q i e h w =
    let l = expr_law q i e h in
    let t : nat_lt (2 ^ 86) l.bound ≡ false = sym (ap (λ (o : Option ℕ). option_map_or (nat_lt (2 ^ 86)) o false) l.same) ∙ w in
    omega (arith, l.small, at_most (2 ^ 86) l.bound t)
  where
    at_most : (m n : ℕ) → nat_lt m n ≡ false → n ≤ m
    at_most m n e = grind (arith, nat_tests)

-- ---- keys

-- in a query of one stream each column is the first stream's
left_alone : (q : Query) (c : Column) → q.second ≡ None → Found q c → (plan_side q c ≡ Left) × (declares (decls q) q.from.name (own_name c) ≡ Some true)
left_alone q c e f = elim f [
  | inl h ↦ (ap (λ (b : Bool). if b then Left else Right) h.0, h.1)
  | inr h ↦ let k : None ≡ Some h.1.0 = sym e ∙ h.1.1 in cc
]

-- and its place is sought there
place_alone : (q : Query) (c : Column) → q.second ≡ None → plan_place q c ≡ place (decls q) q.from.name (own_name c)
place_alone q c e = let P : Option Source → Type 0 = λ o. place (decls q) (if is_left q c then q.from.name else option_map_or (λ (s : Source). s.name) o q.from.name) (own_name c) ≡ place (decls q) q.from.name (own_name c) in subst P (sym e) (by (is_left q c))
  where
    by : (b : Bool) → place (decls q) (if b then q.from.name else q.from.name) (own_name c) ≡ place (decls q) q.from.name (own_name c)
    by true = refl
    by false = refl

keys_there : (q : Query) (g : Keys) (k i : ℕ) (cs : List Column) → q.second ≡ None → AreDeclared q → each column_width (key_faults q g) k i cs ≡ [] → AllByRecursion (λ k. k < sides q Left) (map (plan_place q) cs)
unfolding key_faults
keys_there q g k i [] n d e = tt
keys_there q g k i (c ∷ cs) n d e =
    let h = rows_and (k == 8) (among_columns q c (take k (keys g))) i i cause.TooMany cause.DuplicateName (column_faults q i c) (first_part column_width (key_faults q g) k i c cs e) in
    let l = left_alone q c n (found q i c d h.2) in
    (subst (λ m. m < sides q Left) (sym (place_alone q c n)) (left_there q (own_name c) l.1), keys_there q g (k + 1) (i + column_width c + 1) cs n d (other_parts column_width (key_faults q g) k i c cs e))

ninth : (q : Query) (g : Keys) (i : ℕ) (c : Column) → ¬ (key_faults q g 8 i c ≡ [])
unfolding key_faults
ninth q g i c e = cc

-- what the keys of a plan are
pub record KeysLaw (q : Query) : Type 0 where
  pub few : length (plan_keys q) ≤ 8
  pub there : AllByRecursion (λ k. k < sides q Left) (plan_keys q)

-- at most 8 columns, and those of the first stream
abbrev pub PlacesFit : Query → List ℕ → Type 0
PlacesFit q ks = (length ks ≤ 8) × AllByRecursion (λ k. k < sides q Left) ks

pub places_fit : (q : Query) (g : Keys) (i : ℕ) → q.second ≡ None → AreDeclared q → keys_faults q g i ≡ [] → PlacesFit q (map (plan_place q) (keys g))
places_fit q g i n d e = (omega (arith, few column_width (key_faults q g) 8 (ninth q g) 0 i (keys g) (omega arith) e, length-map (keys g) (plan_place q)), keys_there q g 0 i (keys g) n d e)

keys_of : (q : Query) (i : ℕ) (o : Option Keys) → AreDeclared q → option_map_or (group_faults q i) o [] ≡ [] → PlacesFit q (places q o)
unfolding group_faults
keys_of q i None d e = (omega arith, tt)
keys_of q i (Some g) d e =
    let h = row_and (is_join q) i cause.Shape (keys_faults q g (i + 2)) e in
    places_fit q g (i + 2) (no_second q.second h.0) d h.1
  where
    no_second : (o : Option Source) → is_some o ≡ false → o ≡ None
    no_second None e = refl
    no_second (Some s) e = cc

pub keys_law : (q : Query) (i : ℕ) → AreDeclared q → group_part_faults q i ≡ [] → KeysLaw q
keys_law q i d e = let h = keys_of q i q.group d e in record { few = h.0; there = h.1 }

-- ---- items that are keys

both : (a b : Bool) → (a && b) ≡ true → (a ≡ true) × (b ≡ true)
both true b e = (refl, e)
both false b e = cc

either : (a b : Bool) → (a || b) ≡ true → (a ≡ true) ⊎ (b ≡ true)
either true b e = inl refl
either false b e = inr e

empty : {X : Type 0} (xs : List X) → (length xs == 0) ≡ true → xs ≡ []
empty [] e = refl
empty (x ∷ xs) e = absurd (omega (arith, zero_length (length (x ∷ xs)) e))
  where
    zero_length : (n : ℕ) → (n == 0) ≡ true → n ≡ 0
    zero_length n e = grind (arith, nat_tests)

behind_one : (x n : ℕ) (xs : List ℕ) → Contains xs n → Contains (x ∷ xs) n
behind_one x n xs (k, h, e) = (suc k, omega arith, e)

-- two names of the same words are the same name
words_alike : (c d : Column) → same_words c d ≡ true → own_name c ≡ own_name d
words_alike c d e = let h = both (same c.first d.first) (same_second c.second d.second) e in by c.second d.second (same_names c.first d.first h.0) h.1
  where
    by : (m n : Option (List ℕ)) → c.first ≡ d.first → same_second m n ≡ true → option_map_or (λ n. n) m c.first ≡ option_map_or (λ n. n) n d.first
    by None None f s = f
    by None (Some n) f s = cc
    by (Some m) None f s = cc
    by (Some m) (Some n) f s = same_names m n s

-- and so are two names of one column
same_own : (q : Query) (c d : Column) → same_column q c d ≡ true → own_name c ≡ own_name d
same_own q c d e = elim (either (same_words c d) (same (own_name c) (own_name d) && is_of_one q c d) e) [
  | inl h ↦ words_alike c d h
  | inr h ↦ same_names (own_name c) (own_name d) (both (same (own_name c) (own_name d)) (is_of_one q c d) h).0
]

-- a column of GROUP BY has its place among the keys
among_places : (q : Query) (c : Column) (cs : List Column) → q.second ≡ None → among_columns q c cs ≡ true → Contains (map (plan_place q) cs) (plan_place q c)
among_places q c [] n e = cc
among_places q c (d ∷ ds) n e = elim (either (same_column q d c) (among_columns q c ds) e) [
  | inl h ↦
      (0, omega arith, place_alone q d n ∙ ap (place (decls q) q.from.name) (same_own q d c h) ∙ sym (place_alone q c n))
  | inr h ↦ behind_one (plan_place q d) (plan_place q c) (map (plan_place q) ds) (among_places q c ds n h)
]

listed_place : (q : Query) (c : Column) (o : Option Keys) → q.second ≡ None → is_listed q c o ≡ true → Contains (places q o) (plan_place q c)
listed_place q c None n e = cc
listed_place q c (Some g) n e = among_places q c (keys g) n e

-- a column that is none of GROUP BY's is one of PARTITION BY's
parted_place : (q : Query) (c : Column) → q.second ≡ None → (is_listed q c q.group || is_listed q c (partition_of q.from)) ≡ true → key_place q (f.Column c) ≡ None → Contains (plan_partition q) (plan_place q c)
parted_place q c n e h = elim (either (is_listed q c q.group) (is_listed q c (partition_of q.from)) e) [
  | inl k ↦ absurd (no_place (plan_place q c) (plan_keys q) h (listed_place q c q.group n k))
  | inr k ↦ listed_place q c (partition_of q.from) n k
]

-- an expression that is one factor
single : (q : Query) (x : Factor) (i : ℕ) → q.second ≡ None → AreDeclared q → is_column_key q x ≡ true → key_place q x ≡ None → factor_faults q i x ≡ [] →
    IsKeyAmong (plan_partition q) (record { minus = false; factors = plan_factor q x ∷ [] } ∷ [])
unfolding factor_faults
single q (f.Column c) i n d t h e =
    let l = left_alone q c n (found q i c d e) in
    (plan_place q c, ap (λ (s : Side). record { minus = false; factors = plan.Column s (plan_place q c) ∷ [] } ∷ []) l.0, parted_place q c n t h)
single q (f.Number m) i n d t h e = cc
single q (f.Negative m) i n d t h e = cc

parted_key : (q : Query) (i : ℕ) (e : Expr) → q.second ≡ None → AreDeclared q → is_key q e ≡ true → key_place q e.first.first ≡ None → expr_faults q i e ≡ [] → IsKeyAmong (plan_partition q) (plan_expr q e)
unfolding expr_faults prod_faults
parted_key q i e n d t k h =
    let a = both (length e.more == 0 && length e.first.more == 0) (is_column_key q e.first.first) t in
    let b = both (length e.more == 0) (length e.first.more == 0) a.0 in
    let p = first_part prod_width (λ k. prod_faults q) 0 i e.first (prods e.more) (before (each prod_width (λ k. prod_faults q) 0 i (products e)) (sum_faults 0 i (products e)) h) in
    let x = first_part factor_width (λ k. factor_faults q) 0 i e.first.first e.first.more (before (each factor_width (λ k. factor_faults q) 0 i (factors e.first)) (product_faults 1 i (factors e.first)) p) in
    let P : List Term → List Factor → Type 0 = λ ts xs. IsKeyAmong (plan_partition q) (record { minus = false; factors = plan_factor q e.first.first ∷ map (plan_factor q) xs } ∷ map (plan_term q) ts) in
    subst (λ ts. P ts e.first.more) (sym (empty e.more b.0)) (subst (P []) (sym (empty e.first.more b.1)) (single q e.first.first i n d a.1 k x))

-- ---- items over rows and pairs

valued : (q : Query) (k i : ℕ) (x : Item) → AreDeclared q → is_aggregate x ≡ false → item_faults q k i x ≡ [] → ExprFits (sides q) (plan_value q x)
unfolding item_faults
valued q k i x d a e = by x a (rows_and (k == 32) (is_join q && is_aggregate x) i i cause.TooMany cause.Shape (content_faults q i x) e).2
  where
    by : (x : Item) → is_aggregate x ≡ false → content_faults q i x ≡ [] → ExprFits (sides q) (plan_value q x)
    by Count a c = cc
    by (Sum e) a c = cc
    by (Min e) a c = cc
    by (Max e) a c = cc
    by (Value e) a c = expr_fits q i e d (row_and (is_group q && not (is_key q e)) i cause.NotGrouped (expr_faults q i e) c).1

all_valued : (q : Query) (k i : ℕ) (xs : List Item) → AreDeclared q → any_aggregate xs ≡ false → each item_width (item_faults q) k i xs ≡ [] → AllByRecursion (ExprFits (sides q)) (map (plan_value q) xs)
all_valued q k i [] d a e = tt
all_valued q k i (x ∷ xs) d a e =
    let h = neither (is_aggregate x) (any_aggregate xs) a in
    (valued q k i x d h.0 (first_part item_width (item_faults q) k i x xs e), all_valued q (k + 1) (i + item_width x + 1) xs d h.1 (other_parts item_width (item_faults q) k i x xs e))

-- a join has no aggregate
none_joined : (q : Query) (k i : ℕ) (xs : List Item) → is_join q ≡ true → each item_width (item_faults q) k i xs ≡ [] → any_aggregate xs ≡ false
unfolding item_faults
none_joined q k i [] j e = refl
none_joined q k i (x ∷ xs) j e =
    let h = rows_and (k == 32) (is_join q && is_aggregate x) i i cause.TooMany cause.Shape (content_faults q i x) (first_part item_width (item_faults q) k i x xs e) in
    ap (λ (b : Bool). b || any_aggregate xs) (not_both (is_join q) (is_aggregate x) h.1 j) ∙ none_joined q (k + 1) (i + item_width x + 1) xs j (other_parts item_width (item_faults q) k i x xs e)

-- ---- items over groups

-- a place by itself is that of a column of the key or of the count, and an aggregate fits
abbrev OutputFits : Query → Output → Type 0
OutputFits q (out.Place k) = k ≤ length (plan_keys q)
OutputFits q (out.Aggregate g) = AggregateFits (sides q) (plan_partition q) g

-- a column that a group query prints
named : (q : Query) (i : ℕ) (e : Expr) → AreDeclared q → q.second ≡ None → is_key q e ≡ true → expr_faults q i e ≡ [] → OutputFits q (plan_output q (Value e))
named q i e d n t h = elim (key_place q e.first.first) as (λ (o : Option ℕ). key_place q e.first.first ≡ o → OutputFits q (option_map_or out.Place o (out.Aggregate (record { fold = fold.First; expr = plan_expr q e })))) [
  | Some j ↦ λ k. omega (arith, key_inside q e.first.first j k)
  | None ↦ λ k. (expr_fits q i e d h, parted_key q i e n d t k h)
] refl

grouped : (q : Query) (k i : ℕ) (x : Item) → AreDeclared q → q.second ≡ None → is_group q ≡ true → item_faults q k i x ≡ [] → OutputFits q (plan_output q x)
unfolding item_faults
grouped q k i x d n g e = by x (rows_and (k == 32) (is_join q && is_aggregate x) i i cause.TooMany cause.Shape (content_faults q i x) e).2
  where
    by : (x : Item) → content_faults q i x ≡ [] → OutputFits q (plan_output q x)
    by Count c = omega arith
    by (Sum e) c = let h = row_and (is_sum_wide e) i cause.SumTooWide (expr_faults q (i + 2) e) c in (expr_fits q (i + 2) e d h.1, sum_small q (i + 2) e h.1 h.0)
    by (Min e) c = (expr_fits q (i + 2) e d c, tt)
    by (Max e) c = (expr_fits q (i + 2) e d c, tt)
    by (Value e) c =
        let h = row_and (is_group q && not (is_key q e)) i cause.NotGrouped (expr_faults q i e) c in
        named q i e d n (is_true (is_key q e) (not_both (is_group q) (not (is_key q e)) h.0 g)) h.1

all_grouped : (q : Query) (k i : ℕ) (xs : List Item) → AreDeclared q → q.second ≡ None → is_group q ≡ true → each item_width (item_faults q) k i xs ≡ [] → AllByRecursion (OutputFits q) (map (plan_output q) xs)
all_grouped q k i [] d n g e = tt
all_grouped q k i (x ∷ xs) d n g e = (grouped q k i x d n g (first_part item_width (item_faults q) k i x xs e), all_grouped q (k + 1) (i + item_width x + 1) xs d n g (other_parts item_width (item_faults q) k i x xs e))

gathered_fit : (q : Query) (xs : List Output) → AllByRecursion (OutputFits q) xs → AllByRecursion (AggregateFits (sides q) (plan_partition q)) (gathered_aggregates xs)
gathered_fit q [] h = tt
gathered_fit q (out.Place k ∷ xs) h = gathered_fit q xs h.1
gathered_fit q (out.Aggregate g ∷ xs) h = (h.0, gathered_fit q xs h.1)

printed_fit : (q : Query) (n width : ℕ) (xs : List Output) → length (plan_keys q) < n → n + length (gathered_aggregates xs) ≤ width → AllByRecursion (OutputFits q) xs → AllByRecursion (ItemFits shape.Group (sides q) width) (printed_numbers n xs)
printed_fit q n width [] r s h = tt
printed_fit q n width (out.Place k ∷ xs) r s h = ((k, refl, omega (arith, h.0, r, s)), printed_fit q n width xs r s h.1)
printed_fit q n width (out.Aggregate g ∷ xs) r s h = ((n, refl, omega (arith, s)), printed_fit q (n + 1) width xs (omega (arith, r)) (omega (arith, s)) h.1)

-- ---- all

thirty_third : (q : Query) (i : ℕ) (x : Item) → ¬ (item_faults q 32 i x ≡ [])
unfolding item_faults
thirty_third q i x e = cc

few_written : (q : Query) (i : ℕ) → each item_width (item_faults q) 0 i (items q) ≡ [] → length (items q) ≤ 32
few_written q i e = omega (arith, few item_width (item_faults q) 32 (thirty_third q) 0 i (items q) (omega arith) e)

-- the items of a plan and its aggregates fit, where the query is a join or not, and has groups or not
record ItemsFit (q : Query) (join group : Bool) : Type 0 where
  items : AllByRecursion (ItemFits (if join then shape.Join else (if group then shape.Group else shape.Select)) (sides q) (length (plan_keys q) + 1 + length (if group then gathered_aggregates (plan_outputs q) else [])))
      (if group then printed_numbers (length (plan_keys q) + 1) (plan_outputs q) else map (plan_value q) (items q))
  aggregates : AggregatesFit (if join then shape.Join else (if group then shape.Group else shape.Select)) (sides q) (plan_partition q) (if group then gathered_aggregates (plan_outputs q) else [])

-- an aggregate or GROUP BY
abbrev groups : Query → Bool
groups q = any_aggregate (items q) || is_some q.group

all_fit : (q : Query) (i : ℕ) → AreDeclared q → each item_width (item_faults q) 0 i (items q) ≡ [] → ItemsFit q (is_join q) (is_group q)
all_fit q i d e = elim (q.second) as (λ (o : Option Source). q.second ≡ o → ItemsFit q (is_some o) (not (is_some o) && groups q)) [
  | Some s ↦ λ h.
      let j : is_join q ≡ true = ap (λ (o : Option Source). is_some o) h in
      record { items = all_valued q 0 i (items q) d (none_joined q 0 i (items q) j e) e; aggregates = refl }
  | None ↦ λ h.
      let j : is_join q ≡ false = ap (λ (o : Option Source). is_some o) h in
      elim (groups q) as (λ (b : Bool). groups q ≡ b → ItemsFit q false b) [
        | true ↦ λ g.
            let a = all_grouped q 0 i (items q) d h (ap (λ (b : Bool). not b && groups q) j ∙ g) e in
            record { items = printed_fit q (length (plan_keys q) + 1) _ (plan_outputs q) (omega arith) (omega arith) a; aggregates = gathered_fit q (plan_outputs q) a }
        | false ↦ λ g. record { items = all_valued q 0 i (items q) d (neither (any_aggregate (items q)) (is_some q.group) g).0 e; aggregates = refl }
      ] refl
] refl

-- what the items of a plan and its aggregates are
pub record ItemsLaw (q : Query) : Type 0 where
  pub some : 1 ≤ length (plan_items q)
  pub few : length (plan_items q) ≤ 32
  pub fit : AllByRecursion (ItemFits (plan_shape q) (sides q) (group_width (plan_tree q))) (plan_items q)
  pub few_aggregates : length (plan_aggregates q) ≤ 32
  pub aggregates : AggregatesFit (plan_shape q) (sides q) (plan_partition q) (plan_aggregates q)

pub items_law : (q : Query) (i : ℕ) → AreDeclared q → each item_width (item_faults q) 0 i (items q) ≡ [] → ItemsLaw q
items_law q i d e =
    let h = all_fit q i d e in
    record {
      some = omega (arith, items_count q);
      few = omega (arith, items_count q, few_written q i e);
      fit = h.items;
      few_aggregates = omega (arith, aggregates_count q, few_written q i e);
      aggregates = h.aggregates;
    }
