-- The parts of joins.
use Rattle.std.proofs.Common.{◌≡◌, ℕ, ◌+◌, ◌≤◌, ◌<◌, max, List, [], ◌∷◌, ◌++◌, map, filter, flat_map, length, Bool, true, false, cond, nat_lt, nat_le, Option, None, ℤ, pos, T, refl, sym, ◌∙◌, ap, subst, subst₂, append-nil, ⊎_elim, le_trans, le_refl, arith}
use Rattle.std.proofs.lemmas.List.{map-append}
use Rattle.std.proofs.lemmas.List.Concat.{flat_map-append}
use Rattle.std.proofs.lemmas.List.Elements.{filter-append}
use Rattle.std.proofs.lemmas.Bool.{lt-ltb, le-leb, lt-leb, le-ltb, cases_lt}
use Rattle.std.proofs.lemmas.Bool.Decides.{nat_tests}
use Rattle.std.proofs.lemmas.Int.{ints}
use Rattle.std.specs.Cmp.{int_cmp_is}
use Rattle.std.specs.Ordering.{int_cmp, is_lt, ordering_then}
use Rattle.std.specs.declared.cmp.Ordering.TheVariants.{Less, Equal}
use Rattle.std.specs.FinMap.{get, entries, from_entries, find, is_sorted, get-empty, get-from_entries, same_map}
use Rattle.std.specs.FinMap.Entries.{find-where_key, below_all}
use Rattle.saber_plan.specs.declared.rows.Side.{Side}
use Rattle.saber_plan.specs.declared.rows.Side.TheVariants.{Left, Right}
use Rattle.saber_plan.specs.declared.windows.Mark.{Mark}
use Rattle.saber_plan.specs.declared.rows.Values.{Values}
use Rattle.saber_plan.specs.declared.rows.Row.{Row}
use Rattle.saber_plan.specs.Trees.{Tree}
use Rattle.saber_plan.specs.Values.{passes}
use Rattle.saber_plan.specs.Windows.{Placed, place, placed_after, step_mark, mark_after}
use Rattle.saber_plan.specs.Answers.{key_cmp, pair_key, pairs_with, pairs, pair_answers, is_left, is_right}
use Rattle.saber_plan.specs.Merges.{join}
use Rattle.saber_plan.specs.declared.plans.Shape.TheVariants.{Join}
use Rattle.saber_plan.specs.Parts.{no_part, pair_part, later, Numbers, numbers_of_one, pair_numbers, group_answer, join_numbers, merge}
use Rattle.saber_plan.specs.Facts.Lists.{Each, each-filter, kept, dropped, each-map, each-weaker, each-all, filter-flat_map, flat_map-same, flat_map-none, T_parts, and_T}
use Rattle.saber_plan.specs.Facts.Maps.{get-both, join-none, entries-from_rising}
use Rattle.saber_plan.specs.Facts.Parts.{total, exact}

-- ---- pairs of earlier and later rows

-- the pairs whose rows both stand below y
abbrev pub Numbered : Type 0
Numbered = List ℤ × Numbers

abbrev early : ℕ → Numbered → Bool
early y e = nat_lt (later e.0) y

later_left : (y a b : ℕ) → y ≤ a → nat_lt (max (max 0 a) b) y ≡ false
later_left y a b h = le-ltb _ _ (omega arith)

later_right : (y a b : ℕ) → y ≤ b → nat_lt (max (max 0 a) b) y ≡ false
later_right y a b h = le-ltb _ _ (omega arith)

later_both : (y a b : ℕ) → a < y → b < y → nat_lt (max (max 0 a) b) y ≡ true
later_both y a b g h = lt-ltb _ _ (omega arith)

pub with-append : (q : Tree) (x : Placed) (us vs : List Placed) → pairs_with q (pair_numbers q) x (us ++ vs) ≡ pairs_with q (pair_numbers q) x us ++ pairs_with q (pair_numbers q) x vs
with-append q x us vs = ap (map (λ y. (pair_key x y, pair_numbers q x y))) (filter-append (λ y. passes q.predicate x.row.values y.row.values) us vs) ∙ map-append _ _ _

-- a later left row has no early pair
late_left : (q : Tree) (n : ℕ) (x : Placed) (ys : List Placed) → n ≤ place x → filter (early n) (pairs_with q (pair_numbers q) x ys) ≡ []
late_left q n x ys h = dropped (early n) _ (each-map _ _ _ (each-all _ (λ y. later_left n (place x) (place y) h) _))

-- an early left row has them with the early right rows
late_right : (q : Tree) (n : ℕ) (x : Placed) (vs : List Placed) → Each (λ y. n ≤ place y) vs → filter (early n) (pairs_with q (pair_numbers q) x vs) ≡ []
late_right q n x vs h = dropped (early n) _ (each-map _ _ _ (each-filter _ (λ y. passes q.predicate x.row.values y.row.values) vs (each-weaker _ _ (λ y. later_right n (place x) (place y)) vs h)))

early_right : (q : Tree) (n : ℕ) (x : Placed) (us : List Placed) → place x < n → Each (λ y. place y < n) us → filter (early n) (pairs_with q (pair_numbers q) x us) ≡ pairs_with q (pair_numbers q) x us
early_right q n x us g h = kept (early n) _ (each-map _ _ _ (each-filter _ (λ y. passes q.predicate x.row.values y.row.values) us (each-weaker _ _ (λ y. later_both n (place x) (place y) g) us h)))

early_with : (q : Tree) (n : ℕ) (x : Placed) (us vs : List Placed) → place x < n → Each (λ y. place y < n) us → Each (λ y. n ≤ place y) vs → filter (early n) (pairs_with q (pair_numbers q) x (us ++ vs)) ≡ pairs_with q (pair_numbers q) x us
early_with q n x us vs g h k = ap (filter (early n)) (with-append q x us vs) ∙ filter-append (early n) (pairs_with q (pair_numbers q) x us) (pairs_with q (pair_numbers q) x vs)
    ∙ (λ i. early_right q n x us g h i ++ late_right q n x vs k i) ∙ append-nil _

-- the early pairs are those of the early rows
pub early_pairs : (q : Tree) (n : ℕ) (us vs : List Placed) → Each (λ x. place x < n) us → Each (λ x. n ≤ place x) vs → filter (early n) (pairs q (pair_numbers q) (us ++ vs)) ≡ pairs q (pair_numbers q) us
early_pairs q n us vs h k =
    let rights = filter is_right us in
    let g = λ (x : Placed). pairs_with q (pair_numbers q) x (filter is_right (us ++ vs)) in
    ap (λ l. filter (early n) (flat_map g l)) (filter-append is_left us vs)
    ∙ filter-flat_map (early n) g (filter is_left us ++ filter is_left vs)
    ∙ flat_map-append (λ x. filter (early n) (g x)) (filter is_left us) (filter is_left vs)
    ∙ (λ i. flat_map-same (λ x. filter (early n) (g x)) (λ x. pairs_with q (pair_numbers q) x (filter is_right us)) (filter is_left us)
    (each-filter _ is_left us (each-weaker _ _ (λ x p. ap (λ l. filter (early n) (pairs_with q (pair_numbers q) x l)) (filter-append is_right us vs) ∙ early_with q n x (filter is_right us) (filter is_right vs) p (each-filter _ is_right us h) (each-filter _ is_right vs k)) us h)) i
    ++ flat_map-none (λ x. filter (early n) (g x)) (filter is_left vs) (each-filter _ is_left vs (each-weaker _ _ (λ x p. late_left q n x (filter is_right (us ++ vs)) p) vs k)) i)
    ∙ append-nil _

-- ---- the merge of pairs

pub get-pair_part : (q : Tree) (n : ℕ) (xs : List Placed) (k : List ℤ) → get (pair_part q n xs) k ≡ cond (nat_le n (later k)) (find key_cmp k (pairs q (pair_numbers q) xs)) None
unfolding pair_part
get-pair_part q n xs k = get-from_entries total _ k ∙ find-where_key key_cmp (λ l. nat_le n (later l)) k (λ l e. ap (λ m. nat_le n (later m)) (sym (exact k l e))) (pairs q (pair_numbers q) xs)

pub find_early : (q : Tree) (n : ℕ) (us vs : List Placed) (k : List ℤ) → Each (λ x. place x < n) us → Each (λ x. n ≤ place x) vs → find key_cmp k (pairs q (pair_numbers q) us) ≡ cond (nat_lt (later k) n) (find key_cmp k (pairs q (pair_numbers q) (us ++ vs))) None
find_early q n us vs k g h = ap (find key_cmp k) (sym (early_pairs q n us vs g h)) ∙ find-where_key key_cmp (λ l. nat_lt (later l) n) k (λ l e. ap (λ m. nat_lt (later m) n) (sym (exact k l e))) (pairs q (pair_numbers q) (us ++ vs))

early_case : {X : Type 0} (f : X → X → X) (b : Bool) (o : Option X) → join f (cond b o None) None ≡ cond b o None
early_case f true o = join-none f o
early_case f false o = refl

late_case : {X : Type 0} (f : X → X → X) (b : Bool) (o : Option X) → join f (cond b None None) o ≡ o
late_case f true o = refl
late_case f false o = refl

choose : {X : Type 0} (f : X → X → X) (x y n : ℕ) (o : Option X) → x ≤ y → join f (cond (nat_le x n) (cond (nat_lt n y) o None) None) (cond (nat_le y n) o None) ≡ cond (nat_le x n) o None
choose f x y n o a = ⊎_elim
    (λ l. (λ i. join f (cond (nat_le x n) (cond (lt-ltb n y l i) o None) None) (cond (lt-leb y n l i) o None)) ∙ early_case f (nat_le x n) o)
    (λ l. (λ i. join f (cond (nat_le x n) (cond (le-ltb n y l i) o None) None) (cond (le-leb y n l i) o None)) ∙ late_case f (nat_le x n) o ∙ sym (ap (λ b. cond b o None) (le-leb x n (le_trans a l)))) (cases_lt n y)

-- the pairs from x on are those from x whose rows stand below y, and those from y on
pub pair_part-join : (q : Tree) (x y : ℕ) (us vs : List Placed) → x ≤ y → Each (λ r. place r < y) us → Each (λ r. y ≤ place r) vs → pair_part q x (us ++ vs) ≡ merge (pair_part q x us) (pair_part q y (us ++ vs))
pair_part-join q x y us vs a g h = same_map total exact _ _ (λ k.
    get-pair_part q x (us ++ vs) k ∙ sym (
    get-both total join_numbers (pair_part q x us) (pair_part q y (us ++ vs)) k
    ∙ (λ i. join join_numbers (get-pair_part q x us k i) (get-pair_part q y (us ++ vs) k i))
    ∙ ap (λ o. join join_numbers (cond (nat_le x (later k)) o None) (cond (nat_le y (later k)) (find key_cmp k (pairs q (pair_numbers q) (us ++ vs))) None)) (find_early q y us vs k g h)
    ∙ choose join_numbers x y (later k) (find key_cmp k (pairs q (pair_numbers q) (us ++ vs))) a))

neither : {X : Type 0} (n k : ℕ) (o : Option X) → cond (nat_le n k) (cond (nat_lt k n) o None) None ≡ None
neither n k o = grind (arith, nat_tests)

-- no pair is late among early rows
pub pair_part-none : (q : Tree) (n : ℕ) (us : List Placed) → Each (λ r. place r < n) us → pair_part q n us ≡ no_part
pair_part-none q n us g = same_map total exact _ _ (λ k.
    get-pair_part q n us k ∙ ap (λ o. cond (nat_le n (later k)) o None) (find_early q n us [] k g tt) ∙ neither n (later k) _ ∙ sym (get-empty key_cmp k))

-- ---- the entries of pairs

-- rows at rising positions
abbrev pub Rising : List Placed → Type 0
Rising [] = Unit {0}
Rising (x ∷ xs) = Each (λ y. place x < place y) xs × Rising xs

pub rising-filter : (p : Placed → Bool) (xs : List Placed) → Rising xs → Rising (filter p xs)
rising-filter p [] h = tt
rising-filter p (x ∷ xs) h = elim (p x) as (λ b. Rising (cond b (x ∷ filter p xs) (filter p xs))) [ true ↦ (each-filter _ p xs h.0, rising-filter p xs h.1) | false ↦ rising-filter p xs h.1 ]

pub int_less : (a b : ℕ) → a < b → int_cmp (pos a) (pos b) ≡ Less
int_less a b h = sym (int_cmp_is (pos a) (pos b) Less (omega (arith, ints)))

int_same : (a : ℕ) → int_cmp (pos a) (pos a) ≡ Equal
int_same a = sym (int_cmp_is (pos a) (pos a) Equal refl)

less_first : (a b c d : ℕ) → a < c → T (is_lt (key_cmp (pos a ∷ pos b ∷ []) (pos c ∷ pos d ∷ [])))
less_first a b c d h = subst (λ o. T (is_lt (ordering_then o (key_cmp (pos b ∷ []) (pos d ∷ []))))) (sym (int_less a c h)) tt

less_second : (a b d : ℕ) → b < d → T (is_lt (key_cmp (pos a ∷ pos b ∷ []) (pos a ∷ pos d ∷ [])))
less_second a b d h = subst₂ (λ o r. T (is_lt (ordering_then o (ordering_then r Equal)))) (sym (int_same a)) (sym (int_less b d h)) tt

pub below-map : (k : List ℤ) (f : Placed → Numbered) (ys : List Placed) → Each (λ y. T (is_lt (key_cmp k (f y).0))) ys → T (below_all key_cmp k (map f ys))
below-map k f [] h = tt
below-map k f (y ∷ ys) h = and_T _ _ h.0 (below-map k f ys h.1)

below-append : (k : List ℤ) (es fs : List Numbered) → T (below_all key_cmp k es) → T (below_all key_cmp k fs) → T (below_all key_cmp k (es ++ fs))
below-append k [] fs g h = h
below-append k (e ∷ es) fs g h = let parts = T_parts _ _ g in and_T _ _ parts.0 (below-append k es fs parts.1 h)

abbrev pub pair_entry : Tree → Placed → Placed → Numbered
pair_entry q x y = (pair_key x y, pair_numbers q x y)

sorted_map : (q : Tree) (x : Placed) (ys : List Placed) → Rising ys → T (is_sorted key_cmp (map (pair_entry q x) ys))
sorted_map q x [] r = tt
sorted_map q x (y ∷ ys) r = and_T _ _ (below-map (pair_key x y) (pair_entry q x) ys (each-weaker _ _ (λ z h. less_second (place x) (place y) (place z) h) ys r.0)) (sorted_map q x ys r.1)

pub sorted_with : (q : Tree) (x : Placed) (ys : List Placed) → Rising ys → T (is_sorted key_cmp (pairs_with q (pair_numbers q) x ys))
sorted_with q x ys r = sorted_map q x _ (rising-filter _ ys r)

sorted-append : (es fs : List Numbered) → T (is_sorted key_cmp es) → T (is_sorted key_cmp fs) → Each (λ e. T (below_all key_cmp e.0 fs)) es → T (is_sorted key_cmp (es ++ fs))
sorted-append [] fs g h b = h
sorted-append (e ∷ es) fs g h b = let parts = T_parts _ _ g in and_T _ _ (below-append e.0 es fs parts.0 b.0) (sorted-append es fs parts.1 h b.1)

-- the pairs of a left row come before those of later left rows
below_later : (q : Tree) (x y : Placed) (zs xs : List Placed) → Each (λ z. place x < place z) xs → T (below_all key_cmp (pair_key x y) (flat_map (λ z. pairs_with q (pair_numbers q) z zs) xs))
below_later q x y zs [] h = tt
below_later q x y zs (z ∷ xs) h =
    let passed = filter (λ w. passes q.predicate z.row.values w.row.values) zs in
    below-append (pair_key x y) (pairs_with q (pair_numbers q) z zs) _ (below-map (pair_key x y) (pair_entry q z) passed (each-all _ (λ w. less_first (place x) (place y) (place z) (place w) h.0) passed)) (below_later q x y zs xs h.1)

pub sorted_all : (q : Tree) (zs xs : List Placed) → Rising zs → Rising xs → T (is_sorted key_cmp (flat_map (λ x. pairs_with q (pair_numbers q) x zs) xs))
sorted_all q zs [] r s = tt
sorted_all q zs (x ∷ xs) r s = sorted-append (pairs_with q (pair_numbers q) x zs) _ (sorted_with q x zs r) (sorted_all q zs xs r s.1) (each-map _ (pair_entry q x) _ (each-all _ (λ y. below_later q x y zs xs s.0) _))

pub sorted_pairs : (q : Tree) (xs : List Placed) → Rising xs → T (is_sorted key_cmp (pairs q (pair_numbers q) xs))
sorted_pairs q xs r = sorted_all q (filter is_right xs) (filter is_left xs) (rising-filter is_right xs r) (rising-filter is_left xs r)

entries-pair_part : (q : Tree) (xs : List Placed) → Rising xs → entries (pair_part q 0 xs) ≡ pairs q (pair_numbers q) xs
unfolding pair_part
entries-pair_part q xs r =
    let all_kept : filter (λ e. nat_le 0 (later e.0)) (pairs q (pair_numbers q) xs) ≡ pairs q (pair_numbers q) xs = kept (λ e. nat_le 0 (later e.0)) (pairs q (pair_numbers q) xs) (each-all _ (λ e. le-leb 0 (later e.0) (omega arith)) _) in
    ap (λ es. entries (from_entries {R = key_cmp} es)) all_kept ∙ entries-from_rising total exact (pairs q (pair_numbers q) xs) (sorted_pairs q xs r)

-- the numbers of a pair, or of a row by itself, are its answers
pub values-of_one : (zs : List ℤ) → map (λ v. v.value) (numbers_of_one zs).values ≡ zs
values-of_one [] = refl
values-of_one (z ∷ zs) = ap (λ l. z ∷ l) (values-of_one zs)

answered-map : (q : Tree) (x : Placed) (ys : List Placed) → map (group_answer Join q.items) (map (λ y. (pair_key x y, pair_numbers q x y)) ys) ≡ map (λ y. (pair_key x y, pair_answers q x y)) ys
answered-map q x [] = refl
answered-map q x (y ∷ ys) = λ k. (pair_key x y, values-of_one (pair_answers q x y) k) ∷ answered-map q x ys k

answered-all : (q : Tree) (zs xs : List Placed) → map (group_answer Join q.items) (flat_map (λ x. pairs_with q (pair_numbers q) x zs) xs) ≡ flat_map (λ x. pairs_with q (pair_answers q) x zs) xs
answered-all q zs [] = refl
answered-all q zs (x ∷ xs) = map-append (group_answer Join q.items) (pairs_with q (pair_numbers q) x zs) (flat_map (λ x. pairs_with q (pair_numbers q) x zs) xs) ∙ (λ k. answered-map q x (filter (λ y. passes q.predicate x.row.values y.row.values) zs) k ++ answered-all q zs xs k)

-- the answers in a pair part are those of the pairs
pub answers-pair_part : (q : Tree) (xs : List Placed) → Rising xs → map (group_answer Join q.items) (entries (pair_part q 0 xs)) ≡ pairs q (pair_answers q) xs
answers-pair_part q xs r = ap (map (group_answer Join q.items)) (entries-pair_part q xs r) ∙ answered-all q (filter is_right xs) (filter is_left xs)

-- ---- where placed rows stand

abbrev pub behind : Mark → ℕ
behind m = m.left + m.right

behind_step : (m : Mark) (s : Side) (v : Values) → behind (step_mark m (record { side = s; values = v })) ≡ behind m + 1
behind_step m Left v = omega arith
behind_step m Right v = omega arith

each_lower : (a b : ℕ) (xs : List Placed) → a ≤ b → Each (λ x. b ≤ place x) xs → Each (λ x. a ≤ place x) xs
each_lower a b xs h e = each-weaker _ _ (λ x p. le_trans h p) xs e

pub placed_from : (m : Mark) (xs : List Row) → Each (λ x. behind m ≤ place x) (placed_after m xs)
unfolding placed_after
placed_from m [] = tt
placed_from m (x ∷ xs) = (le_refl _, let one = behind_step m x.side x.values in each_lower _ _ (placed_after (step_mark m x) xs) (omega arith) (placed_from (step_mark m x) xs))

pub placed_below : (m : Mark) (xs : List Row) (n : ℕ) → behind m + length xs ≤ n → Each (λ x. place x < n) (placed_after m xs)
unfolding placed_after
placed_below m [] n h = tt
placed_below m (x ∷ xs) n h = (omega arith, let one = behind_step m x.side x.values in placed_below (step_mark m x) xs n (omega arith))

pub placed_rising : (m : Mark) (xs : List Row) → Rising (placed_after m xs)
unfolding placed_after
placed_rising m [] = tt
placed_rising m (x ∷ xs) = (let one = behind_step m x.side x.values in each-weaker _ _ (λ y p. omega arith) _ (placed_from (step_mark m x) xs), placed_rising (step_mark m x) xs)

pub behind_after : (m : Mark) (xs : List Row) → behind (mark_after m xs) ≡ behind m + length xs
behind_after m [] = omega arith
behind_after m (x ∷ xs) = let one = behind_step m x.side x.values in let rest = behind_after (step_mark m x) xs in omega arith
