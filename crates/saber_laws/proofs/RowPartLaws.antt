-- The parts of rows by themselves.
use Rattle.std.proofs.Common.{◌≡◌, ℕ, ◌≤◌, ◌<◌, max, List, [], ◌∷◌, ◌++◌, map, filter, Bool, true, false, cond, nat_lt, nat_le, Option, Some, None, ℤ, pos, T, refl, sym, ◌∙◌, ap, subst, ⊎_elim, arith}
use Rattle.std.proofs.lemmas.List.{map-append}
use Rattle.std.proofs.lemmas.List.Elements.{filter-append}
use Rattle.std.proofs.lemmas.Bool.{lt-ltb, le-leb, lt-leb, le-ltb, cases_lt, both_ways}
use Rattle.std.specs.Option.{option_or}
use Rattle.std.specs.Ordering.{eq_by_cmp, is_lt, ordering_then}
use Rattle.std.specs.declared.cmp.Ordering.TheVariants.{Equal}
use Rattle.std.specs.FinMap.{entries, find, is_sorted, get-from_entries, same_map}
use Rattle.saber_plan.specs.declared.plans.Shape.TheVariants.{Select}
use Rattle.saber_plan.specs.Trees.{Tree}
use Rattle.saber_plan.specs.Values.{passes}
use Rattle.saber_plan.specs.Windows.{Placed, place}
use Rattle.saber_plan.specs.Answers.{key_cmp, row_key, row_answers, picked_rows}
use Rattle.saber_plan.specs.Merges.{join}
use Rattle.saber_plan.specs.Parts.{no_part, row_part, later, row_numbers, group_answer, join_numbers, merge}
use Rattle.saber_plan.specs.Facts.Lists.{Each, each-filter, each-map, each-weaker, and_T}
use Rattle.saber_plan.specs.Facts.Maps.{get-both, join-none, equal_if, entries-from_rising}
use Rattle.saber_plan.specs.Facts.Parts.{total, exact}
use Rattle.saber_laws.proofs.PairLaws.{Numbered, Rising, rising-filter, int_less, below-map, values-of_one}

picked-append : (q : Tree) (us vs : List Placed) → picked_rows q (row_numbers q) (us ++ vs) ≡ picked_rows q (row_numbers q) us ++ picked_rows q (row_numbers q) vs
picked-append q us vs = ap (map (λ x. (row_key x, row_numbers q x))) (filter-append (λ x. passes q.predicate x.row.values []) us vs) ∙ map-append _ _ _

-- ---- a key that is found in one of two lists

or_none : {X : Type 0} (o : Option X) → option_or o None ≡ o
or_none None = refl
or_none (Some x) = refl

found_case : {X : Type 0} (b : Bool) (x : X) (o p r : Option X) → o ≡ option_or p r → cond b (Some x) o ≡ option_or (cond b (Some x) p) r
found_case true x o p r e = refl
found_case false x o p r e = e

found_in : (k : List ℤ) (es fs : List Numbered) → find key_cmp k (es ++ fs) ≡ option_or (find key_cmp k es) (find key_cmp k fs)
found_in k [] fs = refl
found_in k (e ∷ es) fs = found_case (eq_by_cmp key_cmp k e.0) e.1 _ _ _ (found_in k es fs)

-- a key that is unlike all of them is not found
absent : (p : List ℤ → Bool) (k : List ℤ) → p k ≡ false → (es : List Numbered) → Each (λ e. p e.0 ≡ true) es → find key_cmp k es ≡ None
absent p k n [] h = refl
absent p k n (e ∷ es) h = elim (eq_by_cmp key_cmp k e.0) as (λ b. eq_by_cmp key_cmp k e.0 ≡ b → cond b (Some e.1) (find key_cmp k es) ≡ None) [
  | true ↦ λ t. absurd (both_ways _ n (ap p (exact k e.0 (equal_if _ t)) ∙ h.0))
  | false ↦ λ t. absent p k n es h.1
] refl

in_either : (y : ℕ) (k : List ℤ) (es fs : List Numbered) → Each (λ e. nat_lt (later e.0) y ≡ true) es → Each (λ e. nat_le y (later e.0) ≡ true) fs
    → find key_cmp k (es ++ fs) ≡ join join_numbers (find key_cmp k es) (find key_cmp k fs)
in_either y k es fs g h =
    found_in k es fs
    ∙ ⊎_elim
    (λ l. let none = absent (λ m. nat_le y (later m)) k (lt-leb y (later k) l) fs h in
    ap (option_or (find key_cmp k es)) none ∙ or_none (find key_cmp k es) ∙ sym (ap (join join_numbers (find key_cmp k es)) none ∙ join-none join_numbers (find key_cmp k es)))
    (λ l. let none = absent (λ m. nat_lt (later m) y) k (le-ltb (later k) y l) es g in
    ap (λ o. option_or o (find key_cmp k fs)) none ∙ sym (ap (λ o. join join_numbers o (find key_cmp k fs)) none))
    (cases_lt (later k) y)

-- ---- rows below a position, and rows from it on

below : (a y : ℕ) → a < y → nat_lt (max 0 a) y ≡ true
below a y h = lt-ltb _ _ (omega (arith, h))

from_on : (a y : ℕ) → y ≤ a → nat_le y (max 0 a) ≡ true
from_on a y h = le-leb _ _ (omega (arith, h))

pub row_part-join : (q : Tree) (y : ℕ) (us vs : List Placed) → Each (λ r. place r < y) us → Each (λ r. y ≤ place r) vs → row_part q (us ++ vs) ≡ merge (row_part q us) (row_part q vs)
unfolding row_part
row_part-join q y us vs g h =
    let low : Each (λ (e : Numbered). nat_lt (later e.0) y ≡ true) (picked_rows q (row_numbers q) us) =
    each-map _ _ _ (each-filter _ (λ x. passes q.predicate x.row.values []) us (each-weaker _ _ (λ x p. below (place x) y p) us g)) in
    let high : Each (λ (e : Numbered). nat_le y (later e.0) ≡ true) (picked_rows q (row_numbers q) vs) =
    each-map _ _ _ (each-filter _ (λ x. passes q.predicate x.row.values []) vs (each-weaker _ _ (λ x p. from_on (place x) y p) vs h)) in
    same_map total exact _ _ (λ k.
    get-from_entries total (picked_rows q (row_numbers q) (us ++ vs)) k
    ∙ ap (find key_cmp k) (picked-append q us vs)
    ∙ in_either y k (picked_rows q (row_numbers q) us) (picked_rows q (row_numbers q) vs) low high
    ∙ sym (get-both total join_numbers (row_part q us) (row_part q vs) k
    ∙ (λ i. join join_numbers (get-from_entries total (picked_rows q (row_numbers q) us) k i) (get-from_entries total (picked_rows q (row_numbers q) vs) k i))))

pub row_part-nil : (q : Tree) → row_part q [] ≡ no_part
unfolding row_part
row_part-nil q = refl

-- ---- its entries

one_less : (a c : ℕ) → a < c → T (is_lt (key_cmp (pos a ∷ []) (pos c ∷ [])))
one_less a c h = subst (λ o. T (is_lt (ordering_then o Equal))) (sym (int_less a c h)) tt

abbrev row_entry : Tree → Placed → Numbered
row_entry q x = (row_key x, row_numbers q x)

sorted_rows : (q : Tree) (xs : List Placed) → Rising xs → T (is_sorted key_cmp (map (row_entry q) xs))
sorted_rows q [] r = tt
sorted_rows q (x ∷ xs) r = and_T _ _ (below-map (row_key x) (row_entry q) xs (each-weaker _ _ (λ y h. one_less (place x) (place y) h) xs r.0)) (sorted_rows q xs r.1)

entries-row_part : (q : Tree) (xs : List Placed) → Rising xs → entries (row_part q xs) ≡ picked_rows q (row_numbers q) xs
unfolding row_part
entries-row_part q xs r = entries-from_rising total exact (picked_rows q (row_numbers q) xs) (sorted_rows q _ (rising-filter _ xs r))

answered-rows : (q : Tree) (xs : List Placed) → map (group_answer Select q.items) (map (λ x. (row_key x, row_numbers q x)) xs) ≡ map (λ x. (row_key x, row_answers q x)) xs
answered-rows q [] = refl
answered-rows q (x ∷ xs) = λ k. (row_key x, values-of_one (row_answers q x) k) ∷ answered-rows q xs k

-- the answers in such a part are those of the rows
pub answers-row_part : (q : Tree) (xs : List Placed) → Rising xs → map (group_answer Select q.items) (entries (row_part q xs)) ≡ picked_rows q (row_answers q) xs
answers-row_part q xs r = ap (map (group_answer Select q.items)) (entries-row_part q xs r) ∙ answered-rows q (filter (λ x. passes q.predicate x.row.values []) xs)
