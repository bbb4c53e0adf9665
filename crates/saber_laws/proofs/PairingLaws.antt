-- One more row of a join's window adds its pairs with the rows before it.
use Rattle.std.proofs.Common.{◌≡◌, ℕ, ◌≤◌, ◌<◌, max, List, [], ◌∷◌, ◌++◌, filter, flat_map, Bool, true, false, cond, nat_le, nat_lt, T, Option, Some, None, ℤ, refl, sym, ◌∙◌, ap, subst, append-nil, le_refl, arith}
use Rattle.std.specs.Cmp.{tied_itself}
use Rattle.std.specs.Ordering.{eq_by_cmp, is_lt}
use Rattle.std.specs.FinMap.{get, insert, from_entries, find, is_sorted, get-insert}
use Rattle.std.specs.FinMap.Entries.{below_all}
use Rattle.std.proofs.lemmas.Bool.{lt-leb, le-leb, false_from_ne_true}
use Rattle.std.proofs.lemmas.Bool.Decides.{nat_tests}
use Rattle.std.proofs.lemmas.List.Concat.{flat_map-append}
use Rattle.std.proofs.lemmas.List.Elements.{filter-append}
use Rattle.saber_plan.specs.declared.rows.Side.{Side}
use Rattle.saber_plan.specs.declared.rows.Side.TheVariants.{Left, Right}
use Rattle.saber_plan.specs.declared.windows.Mark.{Mark}
use Rattle.saber_plan.specs.declared.rows.Values.{Values}
use Rattle.saber_plan.specs.Trees.{Tree}
use Rattle.saber_plan.specs.Values.{passes}
use Rattle.saber_plan.specs.Windows.{Placed, place, has}
use Rattle.saber_plan.specs.Answers.{key_cmp, pair_key, pairs_with, pairs, is_left, is_right, frame}
use Rattle.saber_plan.specs.Merges.{joined_value}
use Rattle.saber_plan.specs.Parts.{Part, Numbers, pair_numbers, pair_part, later, join_numbers, merge}
use Rattle.saber_plan.specs.Pairing.{row_pairs, with_entries}
use Rattle.saber_plan.specs.Facts.Maps.{equal_if, both-empty_right, not_below, take_one}
use Rattle.saber_plan.specs.Facts.Lists.{Each, each-filter, each-map, each-weaker, each-all, kept, dropped, filter-flat_map, flat_map-same, flat_map-none, T_parts}
use Rattle.saber_plan.specs.Facts.Parts.{total, exact}
use Rattle.saber_laws.proofs.PairLaws.{Rising, rising-filter, Numbered, with-append, find_early, sorted_with, sorted_all, get-pair_part, pair_part-join}

-- ---- late pairs

abbrev pub late : ℕ → Numbered → Bool
late n e = nat_le n (later e.0)

late_neither : (n a b : ℕ) → a < n → b < n → nat_le n (max (max 0 a) b) ≡ false
late_neither n a b g h = lt-leb _ _ (omega arith)

late_first : (n a b : ℕ) → n ≤ a → nat_le n (max (max 0 a) b) ≡ true
late_first n a b h = le-leb _ _ (omega arith)

late_second : (n a b : ℕ) → n ≤ b → nat_le n (max (max 0 a) b) ≡ true
late_second n a b h = le-leb _ _ (omega arith)

none_late : (q : Tree) (n : ℕ) (x : Placed) (ys : List Placed) → place x < n → Each (λ y. place y < n) ys → filter (late n) (pairs_with q (pair_numbers q) x ys) ≡ []
none_late q n x ys g h = dropped (late n) _ (each-map _ _ _ (each-filter _ (λ y. passes q.predicate x.row.values y.row.values) ys (each-weaker _ _ (λ y. late_neither n (place x) (place y) g) ys h)))

left_late : (q : Tree) (n : ℕ) (x : Placed) (ys : List Placed) → n ≤ place x → filter (late n) (pairs_with q (pair_numbers q) x ys) ≡ pairs_with q (pair_numbers q) x ys
left_late q n x ys h = kept (late n) _ (each-map _ _ _ (each-all _ (λ y. late_first n (place x) (place y) h) _))

right_late : (q : Tree) (n : ℕ) (x : Placed) (ys : List Placed) → Each (λ y. n ≤ place y) ys → filter (late n) (pairs_with q (pair_numbers q) x ys) ≡ pairs_with q (pair_numbers q) x ys
right_late q n x ys h = kept (late n) _ (each-map _ _ _ (each-filter _ (λ y. passes q.predicate x.row.values y.row.values) ys (each-weaker _ _ (λ y. late_second n (place x) (place y)) ys h)))

abbrev at : Mark → Side → Values → Placed
at m s v = record { row = record { side = s; values = v }; before = m }

abbrev lefts : List Placed → List Placed
lefts us = filter is_left us

abbrev rights : List Placed → List Placed
rights us = filter is_right us

-- the late pairs of some rows and a row after them are the pairs of that row
late_left : (q : Tree) (us : List Placed) (m : Mark) (v : Values) → Each (λ y. place y < place (at m Left v)) us
    → filter (late (place (at m Left v))) (pairs q (pair_numbers q) (us ++ at m Left v ∷ [])) ≡ pairs_with q (pair_numbers q) (at m Left v) (rights us)
late_left q us m v h =
    let r = at m Left v in
    let n = place r in
    let g = λ (x : Placed). pairs_with q (pair_numbers q) x (rights us) in
    (λ i. filter (late n) (flat_map (λ x. pairs_with q (pair_numbers q) x ((filter-append is_right us (r ∷ []) ∙ append-nil (rights us)) i)) (filter-append is_left us (r ∷ []) i)))
    ∙ filter-flat_map (late n) g (lefts us ++ r ∷ [])
    ∙ flat_map-append (λ x. filter (late n) (g x)) (lefts us) (r ∷ [])
    ∙ (λ i. flat_map-none (λ x. filter (late n) (g x)) (lefts us) (each-filter _ is_left us (each-weaker _ _ (λ x p. none_late q n x (rights us) p (each-filter _ is_right us h)) us h)) i ++ (left_late q n r (rights us) (le_refl n) i ++ []))
    ∙ append-nil _

late_right : (q : Tree) (us : List Placed) (m : Mark) (v : Values) → Each (λ y. place y < place (at m Right v)) us
    → filter (late (place (at m Right v))) (pairs q (pair_numbers q) (us ++ at m Right v ∷ [])) ≡ flat_map (λ y. pairs_with q (pair_numbers q) y (at m Right v ∷ [])) (lefts us)
late_right q us m v h =
    let r = at m Right v in
    let n = place r in
    let g = λ (x : Placed). pairs_with q (pair_numbers q) x (rights us ++ r ∷ []) in
    (λ i. filter (late n) (flat_map (λ x. pairs_with q (pair_numbers q) x (filter-append is_right us (r ∷ []) i)) ((filter-append is_left us (r ∷ []) ∙ append-nil (lefts us)) i)))
    ∙ filter-flat_map (late n) g (lefts us)
    ∙ flat_map-same (λ x. filter (late n) (g x)) (λ x. pairs_with q (pair_numbers q) x (r ∷ [])) (lefts us)
    (each-filter _ is_left us (each-weaker _ _ (λ x p. ap (filter (late n)) (with-append q x (rights us) (r ∷ [])) ∙ filter-append (late n) (pairs_with q (pair_numbers q) x (rights us)) (pairs_with q (pair_numbers q) x (r ∷ []))
    ∙ (λ i. none_late q n x (rights us) p (each-filter _ is_right us h) i ++ right_late q n x (r ∷ []) (le_refl n, tt) i)) us h))

late_row : (q : Tree) (us : List Placed) (m : Mark) (s : Side) (v : Values) → Each (λ y. place y < place (at m s v)) us
    → filter (late (place (at m s v))) (pairs q (pair_numbers q) (us ++ at m s v ∷ [])) ≡ row_pairs q (at m s v) (lefts us) (rights us)
late_row q us m Left v h = late_left q us m v h
late_row q us m Right v h = late_right q us m v h

-- ---- entries put into a part

not_itself : (k l : List ℤ) → T (is_lt (key_cmp k l)) → eq_by_cmp key_cmp l k ≡ true → ⊥
not_itself k l h e =
    let same : l ≡ k = exact l k (equal_if _ e) in
    let less : T (is_lt (key_cmp k k)) = subst (λ j. T (is_lt (key_cmp k j))) same h in
    subst (λ o. T (is_lt o)) (tied_itself total k) less

abbrev pub Fresh : Part → List Numbered → Type 0
Fresh m es = Each (λ e. get m e.0 ≡ None) es

fresh_after : (m : Part) (k : List ℤ) (v : Numbers) (es : List Numbered) → T (below_all key_cmp k es) → Fresh m es → Fresh (insert m k v) es
fresh_after m k v [] b f = tt
fresh_after m k v (e ∷ es) b f =
    let p = T_parts _ _ b in
    (get-insert total m k v e.0 ∙ ap (λ c. cond c (Some v) (get m e.0)) (false_from_ne_true _ (not_itself k e.0 p.0)) ∙ f.0, fresh_after m k v es p.1 f.1)

-- new entries put into a part are merged into it
pub with_is_merge : (m : Part) (es : List Numbered) → T (is_sorted key_cmp es) → Fresh m es → with_entries m es ≡ merge m (from_entries es)
with_is_merge m [] s f = sym (both-empty_right total join_numbers exact m)
with_is_merge m (e ∷ es) s f =
    let p = T_parts _ _ s in
    with_is_merge (insert m e.0 e.1) es p.1 (fresh_after m e.0 e.1 es p.0 f.1)
    ∙ ap (λ o. merge (insert m e.0 (joined_value join_numbers o e.1)) (from_entries es)) (sym f.0)
    ∙ take_one total exact join_numbers m e.0 e.1 es (not_below key_cmp e.0 es p.0)

-- ---- one more row

row_sorted : (q : Tree) (us : List Placed) (m : Mark) (s : Side) (v : Values) → Rising us → T (is_sorted key_cmp (row_pairs q (at m s v) (lefts us) (rights us)))
row_sorted q us m Left v r = sorted_with q (at m Left v) (rights us) (rising-filter is_right us r)
row_sorted q us m Right v r = sorted_all q (at m Right v ∷ []) (lefts us) (tt, tt) (rising-filter is_left us r)

each-append : {B : Type 0} (P : B → Type 0) (xs ys : List B) → Each P xs → Each P ys → Each P (xs ++ ys)
each-append P [] ys g h = h
each-append P (x ∷ xs) ys g h = (g.0, each-append P xs ys g.1 h)

each-flat_map : {A B : Type 0} (P : B → Type 0) (f : A → List B) (xs : List A) → Each (λ x. Each P (f x)) xs → Each P (flat_map f xs)
each-flat_map P f [] h = tt
each-flat_map P f (x ∷ xs) h = each-append P (f x) (flat_map f xs) h.0 (each-flat_map P f xs h.1)

with_late : (q : Tree) (n : ℕ) (x : Placed) (ys : List Placed) → Each (λ y. late n (pair_key x y, pair_numbers q x y) ≡ true) ys → Each (λ e. late n e ≡ true) (pairs_with q (pair_numbers q) x ys)
with_late q n x ys h = each-map _ _ _ (each-filter _ (λ y. passes q.predicate x.row.values y.row.values) ys h)

row_late : (q : Tree) (us : List Placed) (m : Mark) (s : Side) (v : Values) → Each (λ e. late (place (at m s v)) e ≡ true) (row_pairs q (at m s v) (lefts us) (rights us))
row_late q us m Left v = let n = place (at m Left v) in with_late q n (at m Left v) (rights us) (each-all _ (λ y. late_first n n (place y) (le_refl n)) _)
row_late q us m Right v = let n = place (at m Right v) in each-flat_map (λ e. late n e ≡ true) _ (lefts us) (each-all _ (λ y. with_late q n y (at m Right v ∷ []) (late_second n (place y) n (le_refl n), tt)) _)

not_early : (n k : ℕ) → nat_le n k ≡ true → nat_lt k n ≡ false
not_early n k h = grind (arith, nat_tests)

both_none : {X : Type 0} (b : Bool) → cond {A = Option X} b None None ≡ None
both_none true = refl
both_none false = refl

-- the part of earlier rows has no late pair
not_there : (q : Tree) (x n : ℕ) (us : List Placed) (k : List ℤ) → Each (λ y. place y < n) us → nat_le n (later k) ≡ true → get (pair_part q x us) k ≡ None
not_there q x n us k g h =
    get-pair_part q x us k ∙ ap (λ o. cond (nat_le x (later k)) o None) (find_early q n us [] k g tt ∙ ap (λ b. cond b (find key_cmp k (pairs q (pair_numbers q) (us ++ []))) None) (not_early n (later k) h)) ∙ both_none (nat_le x (later k))

late_part : (q : Tree) (n : ℕ) (us : List Placed) → pair_part q n us ≡ from_entries (filter (late n) (pairs q (pair_numbers q) us))
unfolding pair_part
late_part q n us = refl

row_step : (q : Tree) (x : ℕ) (us : List Placed) (m : Mark) (s : Side) (v : Values) → Rising us → Each (λ y. place y < place (at m s v)) us → x ≤ place (at m s v)
    → pair_part q x (us ++ at m s v ∷ []) ≡ with_entries (pair_part q x us) (row_pairs q (at m s v) (lefts us) (rights us))
row_step q x us m s v r g h =
    let n = place (at m s v) in
    let es = row_pairs q (at m s v) (lefts us) (rights us) in
    pair_part-join q x n us (at m s v ∷ []) h g (le_refl n, tt)
    ∙ ap (merge (pair_part q x us)) (late_part q n (us ++ at m s v ∷ []) ∙ ap (λ l. from_entries {R = key_cmp} l) (late_row q us m s v g))
    ∙ sym (with_is_merge (pair_part q x us) es (row_sorted q us m s v r) (each-weaker _ _ (λ e p. not_there q x n us e.0 g p) es (row_late q us m s v)))

-- a row after some rows of a window adds its pairs with them to the part
pub pair_part-push : (q : Tree) (x : ℕ) (us : List Placed) (r : Placed) → Rising us → Each (λ y. place y < place r) us → x ≤ place r
    → pair_part q x (us ++ r ∷ []) ≡ with_entries (pair_part q x us) (row_pairs q r (filter is_left us) (filter is_right us))
pair_part-push q x us r s g h = row_step q x us r.before r.row.side r.row.values s g h

push_case : (q : Tree) (x i : ℕ) (us : List Placed) (r : Placed) (b : Bool) → has (frame q) i r ≡ b → Rising us → Each (λ y. place y < place r) us → x ≤ place r
    → pair_part q x (filter (has (frame q) i) us ++ cond b (r ∷ []) []) ≡ cond b (with_entries (pair_part q x (filter (has (frame q) i) us)) (row_pairs q r (filter is_left (filter (has (frame q) i) us)) (filter is_right (filter (has (frame q) i) us)))) (pair_part q x (filter (has (frame q) i) us))
push_case q x i us r true e s g h = pair_part-push q x (filter (has (frame q) i) us) r (rising-filter (has (frame q) i) us s) (each-filter _ (has (frame q) i) us g) h
push_case q x i us r false e s g h = ap (pair_part q x) (append-nil _)

-- one more row of a task: each window that has it gets its pairs, and no other
pub window-push : (q : Tree) (x i : ℕ) (us : List Placed) (r : Placed) → Rising us → Each (λ y. place y < place r) us → x ≤ place r
    → pair_part q x (filter (has (frame q) i) (us ++ r ∷ [])) ≡ cond (has (frame q) i r) (with_entries (pair_part q x (filter (has (frame q) i) us)) (row_pairs q r (filter is_left (filter (has (frame q) i) us)) (filter is_right (filter (has (frame q) i) us)))) (pair_part q x (filter (has (frame q) i) us))
window-push q x i us r s g h = ap (pair_part q x) (filter-append (has (frame q) i) us (r ∷ [])) ∙ push_case q x i us r _ refl s g h
