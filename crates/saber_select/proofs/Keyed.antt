-- Rows found as the entries of a part.
use Rattle.std.proofs.Common.{◌≡◌, ℕ, suc, ◌≤◌, ◌<◌, List, [], ◌∷◌, ◌++◌, map, Bool, true, false, cond, nat_lt, nat_le, Option, Some, None, ℤ, pos, nat_abs, T, refl, sym, ◌∙◌, ap, subst, ⊎_elim, arith}
use Rattle.std.proofs.lemmas.List.{map-append}
use Rattle.std.proofs.lemmas.Bool.{lt-ltb, le-leb, lt-leb, le-ltb, cases_lt, both_ways}
use Rattle.std.proofs.lemmas.Int.{ints}
use Rattle.std.specs.Cmp.{int_cmp_is}
use Rattle.std.specs.List.{AllByRecursion}
use Rattle.std.specs.Option.{option_or}
use Rattle.std.specs.Ordering.{eq_by_cmp, is_lt, int_cmp, ordering_then}
use Rattle.std.specs.declared.cmp.Ordering.TheVariants.{Less, Equal}
use Rattle.std.specs.FinMap.{entries, find, is_sorted, get-from_entries, same_map}
use Rattle.std.specs.FinMap.Entries.{below_all}
use Rattle.saber_plan.specs.Answers.{key_cmp}
use Rattle.saber_plan.specs.Merges.{join}
use Rattle.saber_plan.specs.Parts.{Numbers, numbers_of_one, join_numbers, merge}
use Rattle.saber_plan.specs.Facts.Lists.{and_T}
use Rattle.saber_plan.specs.Facts.Maps.{get-both, join-none, equal_if, entries-from_rising}
use Rattle.saber_plan.specs.Facts.Parts.{total, exact}
use Rattle.saber_select.specs.Found.{Found, AllBelow, AllFrom, Rises, Precedes, entry_of, part_of}

-- ---- keys that rise

int_less : (a b : ℕ) → a < b → int_cmp (pos a) (pos b) ≡ Less
int_less a b h = sym (int_cmp_is (pos a) (pos b) Less (omega (arith, ints)))

one_less : (a b : ℕ) → suc a ≤ b → T (is_lt (key_cmp (pos a ∷ []) (pos b ∷ [])))
one_less a b h = subst (λ o. T (is_lt (ordering_then o Equal))) (sym (int_less a b (omega (arith, h)))) tt

below_entries : (e : Found) (es : List Found) → AllFrom (suc e.0) es → T (below_all key_cmp (entry_of e).0 (map entry_of es))
below_entries e [] h = tt
below_entries e (f ∷ es) h = and_T _ _ (one_less e.0 f.0 h.0) (below_entries e es h.1)

sorted_entries : (es : List Found) → Rises es → T (is_sorted key_cmp (map entry_of es))
sorted_entries [] h = tt
sorted_entries (e ∷ es) h = and_T _ _ (below_entries e es h.0) (sorted_entries es h.1)

-- the entries of the part of rows that rise are theirs, in order
pub entries_part : (es : List Found) → Rises es → entries (part_of es) ≡ map entry_of es
entries_part es h = entries-from_rising total exact (map entry_of es) (sorted_entries es h)

-- ---- a part tells the rows

abbrev place_of : List ℤ → ℕ
place_of [] = 0
place_of (z ∷ zs) = nat_abs z

abbrev row_of : List ℤ × Numbers → Found
row_of e = (place_of e.0, map (λ v. v.value) e.1.values)

pub values_back : (zs : List ℤ) → map (λ v. v.value) (numbers_of_one zs).values ≡ zs
values_back [] = refl
values_back (z ∷ zs) = ap (λ l. z ∷ l) (values_back zs)

rows_back : (es : List Found) → map row_of (map entry_of es) ≡ es
rows_back [] = refl
rows_back (e ∷ es) = λ j. (e.0, values_back e.1 j) ∷ rows_back es j

pub same_rows : (a b : List Found) → Rises a → Rises b → part_of a ≡ part_of b → a ≡ b
same_rows a b h k e = sym (rows_back a) ∙ ap (map row_of) (sym (entries_part a h) ∙ ap entries e ∙ entries_part b k) ∙ rows_back b

-- ---- the part of rows and of later ones

or_none : {X : Type 0} (o : Option X) → option_or o None ≡ o
or_none None = refl
or_none (Some x) = refl

found_case : {X : Type 0} (b : Bool) (x : X) (o p r : Option X) → o ≡ option_or p r → cond b (Some x) o ≡ option_or (cond b (Some x) p) r
found_case true x o p r e = refl
found_case false x o p r e = e

found_either : (k : List ℤ) (es fs : List (List ℤ × Numbers)) → find key_cmp k (es ++ fs) ≡ option_or (find key_cmp k es) (find key_cmp k fs)
found_either k [] fs = refl
found_either k (e ∷ es) fs = found_case (eq_by_cmp key_cmp k e.0) e.1 _ _ _ (found_either k es fs)

-- a key that is unlike all of them is not found
absent_case : (p : ℕ → Bool) (k : List ℤ) (e : Found) (es : List Found) (t : Bool) → eq_by_cmp key_cmp k (entry_of e).0 ≡ t → p (place_of k) ≡ false → p e.0 ≡ true → find key_cmp k (map entry_of es) ≡ None
    → cond t (Some (entry_of e).1) (find key_cmp k (map entry_of es)) ≡ None
absent_case p k e es true t n h rest = absurd (both_ways _ n (ap (λ l. p (place_of l)) (exact k (entry_of e).0 (equal_if _ t)) ∙ h))
absent_case p k e es false t n h rest = rest

absent : (p : ℕ → Bool) (k : List ℤ) → p (place_of k) ≡ false → (es : List Found) → AllByRecursion (λ (e : Found). p e.0 ≡ true) es → find key_cmp k (map entry_of es) ≡ None
absent p k n [] h = refl
absent p k n (e ∷ es) h = absent_case p k e es (eq_by_cmp key_cmp k (entry_of e).0) refl n h.0 (absent p k n es h.1)

all_low : (n : ℕ) (es : List Found) → AllBelow n es → AllByRecursion (λ (e : Found). nat_lt e.0 n ≡ true) es
all_low n [] h = tt
all_low n (e ∷ es) h = (lt-ltb e.0 n h.0, all_low n es h.1)

all_high : (n : ℕ) (es : List Found) → AllFrom n es → AllByRecursion (λ (e : Found). nat_le n e.0 ≡ true) es
all_high n [] h = tt
all_high n (e ∷ es) h = (le-leb n e.0 h.0, all_high n es h.1)

in_either : (n : ℕ) (k : List ℤ) (a b : List Found) → AllBelow n a → AllFrom n b
    → find key_cmp k (map entry_of a ++ map entry_of b) ≡ join join_numbers (find key_cmp k (map entry_of a)) (find key_cmp k (map entry_of b))
in_either n k a b low high =
    let mine = find key_cmp k (map entry_of a) in
    let theirs = find key_cmp k (map entry_of b) in
    found_either k (map entry_of a) (map entry_of b)
    ∙ ⊎_elim
    (λ l. let none = absent (λ m. nat_le n m) k (lt-leb n (place_of k) l) b (all_high n b high) in
    ap (option_or mine) none ∙ or_none mine ∙ sym (ap (join join_numbers mine) none ∙ join-none join_numbers mine))
    (λ l. let none = absent (λ m. nat_lt m n) k (le-ltb (place_of k) n l) a (all_low n a low) in
    ap (λ o. option_or o theirs) none ∙ sym (ap (λ o. join join_numbers o theirs) none))
    (cases_lt (place_of k) n)

pub parts_merge : (a b : List Found) → Precedes a b → part_of (a ++ b) ≡ merge (part_of a) (part_of b)
parts_merge a b p = same_map total exact _ _ (λ k.
    get-from_entries total (map entry_of (a ++ b)) k
    ∙ ap (find key_cmp k) (map-append entry_of a b)
    ∙ in_either p.seam k a b p.before p.behind
    ∙ sym (get-both total join_numbers (part_of a) (part_of b) k
    ∙ (λ i. join join_numbers (get-from_entries total (map entry_of a) k i) (get-from_entries total (map entry_of b) k i))))
