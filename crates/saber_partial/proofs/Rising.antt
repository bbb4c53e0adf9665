-- Entries in one list, by key, as a finite map: look-ups, writes and inserts.
use Rattle.std.proofs.Common.{◌≡◌, ℕ, zero, suc, ◌+◌, ◌-◌, ◌<◌, ◌≤◌, T, List, [], ◌∷◌, length, get_or, drop, ℤ, Bool, true, false, cond, Option, Some, None, refl, sym, ◌∙◌, ap, ap₂, subst, ⊎_elim, arith}
use Rattle.std.proofs.Math.ListN.{set}
use Rattle.std.proofs.lemmas.List.{get_or-drop, length-drop}
use Rattle.std.proofs.Math.Nat.{eq-or-lt_of_le}
use Rattle.std.specs.declared.cmp.Ordering.{Ordering}
use Rattle.std.specs.declared.cmp.Ordering.TheVariants.{Less, Equal, Greater}
use Rattle.std.specs.Cmp.{tied_itself}
use Rattle.std.specs.Ordering.{eq_by_cmp, is_eq, is_lt, ordering_reverse}
use Rattle.std.specs.List.{insert}
use Rattle.std.specs.Map.{keys_of}
use Rattle.std.specs.FinMap.{get, find, put, get-from_entries, get-insert, same_map}
use Rattle.std.specs.FinMap as finite
use Rattle.std.specs.FinMap.Entries.{below_all, by_order, find-put, find_tied, is_sorted-put}
use Rattle.saber_plan.specs.Answers.{key_cmp}
use Rattle.saber_plan.specs.Parts.{Numbers, join_numbers}
use Rattle.saber_plan.specs.Merges.{joined_value}
use Rattle.saber_plan.specs.Facts.Lists.{T_parts}
use Rattle.saber_plan.specs.Facts.Maps.{equal_if, first_alone, rest_rises}
use Rattle.saber_plan.specs.Facts.Parts.{total, exact}
use Rattle.saber_partial.specs.declared.layout.Layout.{Layout}
use Rattle.saber_partial.specs.Flat.{entry_in}
use Rattle.saber_partial.specs.Tallies.{with_row, CanJoin}
use Rattle.saber_partial.specs.Sorted.{part_of, Rises, IsAt, IsGap, JoinsFit, CanJoinAll}
use Rattle.saber_partial.specs.MergeFacts.{not_both}

-- ---- order

pub less : (o : Ordering) → T (is_lt o) → o ≡ Less
less Less p = refl
less Equal p = absurd p
less Greater p = absurd p

pub turned : (x y : List ℤ) → key_cmp x y ≡ Less → key_cmp y x ≡ Greater
turned x y e = total.antisymm y x ∙ ap ordering_reverse e

pub turned_back : (x y : List ℤ) → key_cmp x y ≡ Greater → key_cmp y x ≡ Less
turned_back x y e = total.antisymm y x ∙ ap ordering_reverse e

pub below_at : (k : List ℤ) (es : List (List ℤ × Numbers)) (i : ℕ) (d : List ℤ × Numbers) → T (below_all key_cmp k es) → i < length es → key_cmp k (get_or es i d).0 ≡ Less
below_at k [] i d h l = absurd (omega (arith, l))
below_at k (e ∷ es) zero d h l = less _ (T_parts _ _ h).0
below_at k (e ∷ es) (suc i) d h l = below_at k es i d (T_parts _ _ h).1 (omega (arith, l))

pub apart : (es : List (List ℤ × Numbers)) (i j : ℕ) (d : List ℤ × Numbers) → Rises es → i < j → j < length es → key_cmp (get_or es i d).0 (get_or es j d).0 ≡ Less
apart [] i j d s h l = absurd (omega (arith, l))
apart (e ∷ es) i zero d s h l = absurd (omega (arith, h))
apart (e ∷ es) zero (suc j) d s h l = below_at e.0 es j d (T_parts _ _ s).0 (omega (arith, l))
apart (e ∷ es) (suc i) (suc j) d s h l = apart es i j d (rest_rises key_cmp e es s) (omega (arith, h)) (omega (arith, l))

-- keys before one that is less are less, and those behind a greater one are greater
pub less_before : (es : List (List ℤ × Numbers)) (k : List ℤ) (i j : ℕ) (d : List ℤ × Numbers) → Rises es → i ≤ j → j < length es
    → key_cmp (get_or es j d).0 k ≡ Less → key_cmp (get_or es i d).0 k ≡ Less
less_before es k i j d s h l e =
    ⊎_elim (λ (w : i ≡ j). ap (λ n. key_cmp (get_or es n d).0 k) w ∙ e)
    (λ (w : i < j). total.trans (get_or es i d).0 (get_or es j d).0 k (apart es i j d s w l) e)
    (eq-or-lt_of_le h)

pub greater_behind : (es : List (List ℤ × Numbers)) (k : List ℤ) (i j : ℕ) (d : List ℤ × Numbers) → Rises es → i ≤ j → j < length es
    → key_cmp (get_or es i d).0 k ≡ Greater → key_cmp (get_or es j d).0 k ≡ Greater
greater_behind es k i j d s h l e =
    ⊎_elim (λ (w : i ≡ j). ap (λ n. key_cmp (get_or es n d).0 k) (sym w) ∙ e)
    (λ (w : i < j). turned k (get_or es j d).0 (total.trans k (get_or es i d).0 (get_or es j d).0 (turned_back (get_or es i d).0 k e) (apart es i j d s w l)))
    (eq-or-lt_of_le h)

-- ---- look-ups

rest_case : (b : Bool) (x : Numbers) (o : Option Numbers) (a : Numbers) → (b ≡ true → o ≡ None) → o ≡ Some a → cond b (Some x) o ≡ Some a
rest_case true x o a n e = absurd (not_both (n refl) e)
rest_case false x o a n e = e

found_behind : (q : List ℤ) (e : List ℤ × Numbers) (es : List (List ℤ × Numbers)) (a : Numbers) → Rises (e ∷ es) → find key_cmp q es ≡ Some a → find key_cmp q (e ∷ es) ≡ Some a
found_behind q e es a s h = rest_case (eq_by_cmp key_cmp q e.0) e.1 (find key_cmp q es) a (λ t. sym (find_tied key_cmp total q e.0 (equal_if _ t) es) ∙ first_alone key_cmp e es s) h

-- each entry is found by its key
pub find_there : (es : List (List ℤ × Numbers)) (i : ℕ) (d : List ℤ × Numbers) → Rises es → i < length es → find key_cmp (get_or es i d).0 es ≡ Some (get_or es i d).1
find_there [] i d s h = absurd (omega (arith, h))
find_there (e ∷ es) zero d s h = ap (λ r. cond (is_eq r) (Some e.1) (find key_cmp e.0 es)) (tied_itself total e.0)
find_there (e ∷ es) (suc i) d s h = found_behind (get_or es i d).0 e es (get_or es i d).1 s (find_there es i d (rest_rises key_cmp e es s) (omega (arith, h)))

pub get_there : (es : List (List ℤ × Numbers)) (k : List ℤ) (i : ℕ) (d : List ℤ × Numbers) → Rises es → i < length es → (get_or es i d).0 ≡ k → get (part_of es) k ≡ Some (get_or es i d).1
get_there es k i d s h e = get-from_entries total es k ∙ ap (λ l. find key_cmp l es) (sym e) ∙ find_there es i d s h

behind_gap : (x : List ℤ × Numbers) (es : List (List ℤ × Numbers)) (k : List ℤ) (i : ℕ) → IsGap (x ∷ es) k (suc i) → IsGap es k i
behind_gap x es k i g = let w = g.within in record { within = omega (arith, w); below = λ j d l. g.below (suc j) d (omega (arith, l)); above = λ j d a b. g.above (suc j) d (omega (arith, a)) (omega (arith, b)) }

before_gap : (x : List ℤ × Numbers) (es : List (List ℤ × Numbers)) (k : List ℤ) → IsGap (x ∷ es) k 0 → IsGap es k 0
before_gap x es k g = record { within = omega arith; below = λ j d l. absurd (omega (arith, l)); above = λ j d a b. g.above (suc j) d (omega arith) (omega (arith, b)) }

pub find_gap : (es : List (List ℤ × Numbers)) (k : List ℤ) (i : ℕ) → IsGap es k i → find key_cmp k es ≡ None
find_gap [] k i g = refl
find_gap (x ∷ es) k zero g = ap (λ r. cond (is_eq r) (Some x.1) (find key_cmp k es)) (turned_back x.0 k (g.above 0 x (omega arith) (omega arith))) ∙ find_gap es k zero (before_gap x es k g)
find_gap (x ∷ es) k (suc i) g = ap (λ r. cond (is_eq r) (Some x.1) (find key_cmp k es)) (turned x.0 k (g.below 0 x (omega arith))) ∙ find_gap es k i (behind_gap x es k i g)

pub get_gap : (es : List (List ℤ × Numbers)) (k : List ℤ) (i : ℕ) → IsGap es k i → get (part_of es) k ≡ None
get_gap es k i g = get-from_entries total es k ∙ find_gap es k i g

-- ---- writes

pub set_put : (es : List (List ℤ × Numbers)) (k : List ℤ) (i : ℕ) (n : Numbers) (d : List ℤ × Numbers) → Rises es → i < length es → (get_or es i d).0 ≡ k → set es i (k, n) ≡ put key_cmp k n es
set_put [] k i n d s h e = absurd (omega (arith, h))
set_put (x ∷ es) k zero n d s h e =
    ap (λ l. (l, n) ∷ es) (sym e)
    ∙ ap (λ r. by_order r ((k, n) ∷ x ∷ es) ((x.0, n) ∷ es) (x ∷ put key_cmp k n es)) (sym (tied_itself total x.0) ∙ ap (λ l. key_cmp l x.0) e)
set_put (x ∷ es) k (suc i) n d s h e =
    ap (λ l. x ∷ l) (set_put es k i n d (rest_rises key_cmp x es s) (omega (arith, h)) e)
    ∙ ap (λ r. by_order r ((k, n) ∷ x ∷ es) ((x.0, n) ∷ es) (x ∷ put key_cmp k n es)) (sym (turned x.0 k (ap (key_cmp x.0) (sym e) ∙ below_at x.0 es i d (T_parts _ _ s).0 (omega (arith, h)))))

pub insert_put : (es : List (List ℤ × Numbers)) (k : List ℤ) (i : ℕ) (n : Numbers) → IsGap es k i → insert es i (k, n) ≡ put key_cmp k n es
insert_put [] k zero n g = refl
insert_put [] k (suc i) n g = let w = g.within in absurd (omega (arith, w))
insert_put (x ∷ es) k zero n g = ap (λ r. by_order r ((k, n) ∷ x ∷ es) ((x.0, n) ∷ es) (x ∷ put key_cmp k n es)) (sym (turned_back x.0 k (g.above 0 x (omega arith) (omega arith))))
insert_put (x ∷ es) k (suc i) n g = ap (λ l. x ∷ l) (insert_put es k i n (behind_gap x es k i g)) ∙ ap (λ r. by_order r ((k, n) ∷ x ∷ es) ((x.0, n) ∷ es) (x ∷ put key_cmp k n es)) (sym (turned x.0 k (g.below 0 x (omega arith))))

pub put_part : (k : List ℤ) (n : Numbers) (es : List (List ℤ × Numbers)) → part_of (put key_cmp k n es) ≡ finite.insert (part_of es) k n
put_part k n es = same_map total exact _ _ (λ q. get-from_entries total (put key_cmp k n es) q ∙ find-put key_cmp total q k n es
    ∙ sym (get-insert total (part_of es) k n q ∙ ap (cond (eq_by_cmp key_cmp q k) (Some n)) (get-from_entries total es q)))

pub put_rises : (k : List ℤ) (n : Numbers) (es : List (List ℤ × Numbers)) → Rises es → Rises (put key_cmp k n es)
put_rises k n es s = is_sorted-put key_cmp total k n es s

-- ---- two lists

pub can_all : (es fs : List (List ℤ × Numbers)) → Rises es → Rises fs → JoinsFit (part_of es) (part_of fs) → CanJoinAll es fs
can_all es fs s t can = record { at = λ i j d e h l same. can.at (get_or es i d).0 _ _ (get_there es (get_or es i d).0 i d s h refl) (get_there fs (get_or es i d).0 j e t l (sym same)) }

-- the same of those of the other list from one on
pub can_behind : (es fs : List (List ℤ × Numbers)) (n i j : ℕ) (d : List ℤ × Numbers) → CanJoinAll es (drop n fs) → n ≤ j → i < length es → j < length fs
    → (get_or es i d).0 ≡ (get_or fs j d).0 → CanJoin (get_or es i d).1 (get_or fs j d).1
can_behind es fs n i j d can start low more same =
    let far : n + (j - n) ≡ j = omega (arith, start) in
    let there : get_or (drop n fs) (j - n) d ≡ get_or fs j d = get_or-drop n fs (j - n) d ∙ ap (λ m. get_or fs m d) far in
    let long = length-drop n fs in
    subst (λ (x : List ℤ × Numbers). CanJoin (get_or es i d).1 x.1) there
    (can.at i (j - n) d d low (omega (arith, start, more, long)) (same ∙ ap (λ (x : List ℤ × Numbers). x.0) (sym there)))

-- keys that are the same are so at each place
pub same_at : (es fs : List (List ℤ × Numbers)) (i : ℕ) (d e : List ℤ × Numbers) → keys_of es ≡ keys_of fs → i < length es → (i < length fs) × ((get_or es i d).0 ≡ (get_or fs i e).0)
same_at [] fs i d e h l = absurd (omega (arith, l))
same_at (x ∷ es) [] i d e h l = cc
same_at (x ∷ es) (y ∷ fs) zero d e h l = (omega arith, cc)
same_at (x ∷ es) (y ∷ fs) (suc i) d e h l =
    let rest : keys_of es ≡ keys_of fs = cc in
    let w = same_at es fs i d e rest (omega (arith, l)) in
    let low = w.0 in (omega (arith, low), w.1)

-- keys are the same if they are at a place and behind it
pub keys_more : (es fs : List (List ℤ × Numbers)) (i : ℕ) → i < length es → i < length fs
    → ((d : List ℤ × Numbers) → (get_or es i d).0 ≡ (get_or fs i d).0)
    → keys_of (drop (i + 1) es) ≡ keys_of (drop (i + 1) fs) → keys_of (drop i es) ≡ keys_of (drop i fs)
keys_more [] fs i l m h r = absurd (omega (arith, l))
keys_more (e ∷ es) [] i l m h r = absurd (omega (arith, m))
keys_more (e ∷ es) (f ∷ fs) zero l m h r = ap₂ (λ (k : List ℤ) (ks : List (List ℤ)). k ∷ ks) (h e) r
keys_more (e ∷ es) (f ∷ fs) (suc i) l m h r =
    let next : suc i + 1 ≡ suc (i + 1) = omega arith in
    keys_more es fs i (omega (arith, l)) (omega (arith, m)) h (subst (λ n. keys_of (drop n (e ∷ es)) ≡ keys_of (drop n (f ∷ fs))) next r)

pub keys_alone : (es fs : List (List ℤ × Numbers)) → length es ≡ 1 → length fs ≡ 1
    → ((d : List ℤ × Numbers) → (get_or es 0 d).0 ≡ (get_or fs 0 d).0) → keys_of es ≡ keys_of fs
keys_alone [] fs l m h = absurd (omega (arith, l))
keys_alone (e ∷ es) [] l m h = absurd (omega (arith, m))
keys_alone (e ∷ []) (f ∷ []) l m h = λ i. h e i ∷ []
keys_alone (e ∷ []) (f ∷ y ∷ fs) l m h = absurd (omega (arith, m))
keys_alone (e ∷ x ∷ es) (f ∷ fs) l m h = absurd (omega (arith, l))

-- ---- a key's entry, read and written

-- a row read by a layout that is the same
pub read_alike : (l m : Layout) (xs : List ℤ) (e : List ℤ × Numbers) → l ≡ m → entry_in m xs ≡ e → entry_in l xs ≡ e
read_alike l m xs e h f = ap (λ (n : Layout). entry_in n xs) h ∙ f

pub read_at : (es : List (List ℤ × Numbers)) (k : List ℤ) (i : ℕ) (d : List ℤ × Numbers) → Rises es → IsAt es k i → get (part_of es) k ≡ Some (get_or es i d).1
read_at es k i d s h = get_there es k i d s h.within (h.at d)

-- joined with more
module _ (es gs : List (List ℤ × Numbers)) (k : List ℤ) (i : ℕ) (d : List ℤ × Numbers) (v : Numbers) (s : Rises es) (h : IsAt es k i)
    (new : gs ≡ set es i ((get_or es i d).0, join_numbers (get_or es i d).1 v)) where
  wrote : gs ≡ put key_cmp k (join_numbers (get_or es i d).1 v) es
  wrote = new ∙ ap (λ (l : List ℤ). set es i (l, join_numbers (get_or es i d).1 v)) (h.at d)
      ∙ set_put es k i (join_numbers (get_or es i d).1 v) d s h.within (h.at d)

  pub wrote_rises : Rises gs
  wrote_rises = subst Rises (sym wrote) (put_rises k (join_numbers (get_or es i d).1 v) es s)

  pub wrote_part : part_of gs ≡ with_row (part_of es) k v
  wrote_part = ap part_of wrote ∙ put_part k (join_numbers (get_or es i d).1 v) es
      ∙ ap (λ o. finite.insert (part_of es) k (joined_value join_numbers o v)) (sym (read_at es k i d s h))

-- a new entry
module _ (es gs : List (List ℤ × Numbers)) (k : List ℤ) (i : ℕ) (v : Numbers) (s : Rises es) (h : IsGap es k i) (new : gs ≡ insert es i (k, v)) where
  filled : gs ≡ put key_cmp k v es
  filled = new ∙ insert_put es k i v h

  pub filled_rises : Rises gs
  filled_rises = subst Rises (sym filled) (put_rises k v es s)

  pub filled_part : part_of gs ≡ with_row (part_of es) k v
  filled_part = ap part_of filled ∙ put_part k v es ∙ ap (λ o. finite.insert (part_of es) k (joined_value join_numbers o v)) (sym (get_gap es k i h))
