-- Entries picked by their places: read, written over, and one more put among them.
use Rattle.std.proofs.Common.{◌≡◌, ℕ, zero, suc, ◌+◌, ◌<◌, ◌≤◌, List, [], ◌∷◌, ◌++◌, length, map, take, drop, get_or, ℤ, refl, sym, ◌∙◌, ap, ap₂, subst, ◌⊎◌, inl, inr, ⊎_elim, length-append, append_assoc, ◌-◌, arith}
use Rattle.std.proofs.lemmas.List.{length-map, length-take-le, length-drop, length-set, take_more, take-take, drop-take, map-append, take-map, drop-map, get_or-map, get_or-take, get_or_append_left, get_or_push, get_or-set_same, get_or-set_other, get_or_default}
use Rattle.std.proofs.lemmas.List.Edits.{get_or-insert_below, get_or-insert_at, get_or-insert_above, take-paste}
use Rattle.std.proofs.Math.Seq.{take-set-lt, set-append_seam}
use Rattle.std.specs.List.{copy_within, insert, AllByRecursion}
use Rattle.std.proofs.Math.ListN.{set}
use Rattle.std.proofs.Math.Nat.{eq-or-lt_of_le}
use Rattle.std.specs.declared.cmp.Ordering.{Ordering}
use Rattle.std.specs.declared.cmp.Ordering.TheVariants.{Less, Equal}
use Rattle.std.specs.Cmp.{tied_itself}
use Rattle.saber_plan.specs.Answers.{key_cmp}
use Rattle.saber_plan.specs.Parts.{Numbers, join_numbers}
use Rattle.saber_plan.specs.Facts.Parts.{total}
use Rattle.saber_plan.specs.Facts.Lists.{all_at, all_append}
use Rattle.saber_partial.specs.declared.layout.Layout.{Layout}
use Rattle.saber_partial.specs.Flat.{HasLayout, HaveLayout}
use Rattle.saber_partial.specs.Sorted.{IsAt, IsGap}
use Rattle.saber_partial.specs.Tallies.{CanJoin, FitsAt, with_row}
use Rattle.saber_partial.specs.Young.{no_entry, picked_entries, by_key, young_part, IsOrder}
use Rattle.saber_partial.proofs.Rising.{apart, read_at, wrote_rises, wrote_part, filled_rises, filled_part}

lt_or : (j k : ℕ) → (j < k) ⊎ (k ≤ j)
lt_or j zero = inr (omega arith)
lt_or zero (suc k) = inl (omega arith)
lt_or (suc j) (suc k) = ⊎_elim (λ (w : j < k). inl (omega (arith, w))) (λ (w : k ≤ j). inr (omega (arith, w))) (lt_or j k)

-- ---- read

module _ (order : List ℕ) (es : List (List ℤ × Numbers)) (long : length es ≤ length order) where
  front_long : length (take (length es) order) ≡ length es
  front_long = length-take-le (length es) order long

  pub length-by_key : length (by_key order es) ≡ length es
  length-by_key = length-map (take (length es) order) (λ p. get_or es p no_entry) ∙ front_long

  pub by_key_at : (j : ℕ) (d : List ℤ × Numbers) → j < length es → get_or (by_key order es) j d ≡ get_or es (get_or order j 0) no_entry
  by_key_at j d h =
      get_or-map (λ p. get_or es p no_entry) (take (length es) order) j 0 d (let l = front_long in omega (arith, l, h))
      ∙ ap (λ p. get_or es p no_entry) (get_or-take (length es) order j 0 h)

  pub place_within : (j : ℕ) → j < length es → AllByRecursion (λ p. p < length es) (take (length es) order) → get_or order j 0 < length es
  place_within j h all = all_at (λ p. p < length es) (take (length es) order) j (get_or order j 0) (let l = front_long in omega (arith, l, h))
      (sym (get_or-take (length es) order j (get_or order j 0) h ∙ get_or_default order j (get_or order j 0) 0 (omega (arith, long, h)))) all

pub order_long : (order : List ℕ) (es : List (List ℤ × Numbers)) → IsOrder order es → length es ≤ length order
order_long order es o = let a = o.long in let b = o.few in omega (arith, a, b)

-- a place by key tells of an entry
module _ (order : List ℕ) (es : List (List ℤ × Numbers)) (o : IsOrder order es) (j : ℕ) (low : j < length es) where
  pub told_within : get_or order j 0 < length es
  told_within = place_within order es (order_long order es o) j low o.within

  pub told_at : (d e : List ℤ × Numbers) → get_or (by_key order es) j d ≡ get_or es (get_or order j 0) e
  told_at d e = by_key_at order es (order_long order es o) j d low ∙ get_or_default es (get_or order j 0) no_entry e told_within

  -- its key, where it was read
  pub told_key : (p : ℕ) (k : List ℤ) → p ≡ get_or order j 0 → ((d : List ℤ × Numbers) → k ≡ (get_or es p d).0) → (d : List ℤ × Numbers) → (get_or (by_key order es) j d).0 ≡ k
  told_key p k e h d = ap (λ (x : List ℤ × Numbers). x.0) (told_at d d) ∙ ap (λ q. (get_or es q d).0) (sym e) ∙ sym (h d)

-- it can take in what the part can under its key
pub told_can : (order : List ℕ) (es : List (List ℤ × Numbers)) (k : List ℤ) (j : ℕ) (v : Numbers) (o : IsOrder order es) → j < length es → ((d : List ℤ × Numbers) → (get_or (by_key order es) j d).0 ≡ k)
    → FitsAt (young_part order es) k v → (d : List ℤ × Numbers) → CanJoin (get_or es (get_or order j 0) d).1 v
told_can order es k j v o low key fits d =
    let long = length-by_key order es (order_long order es o) in
    let at : IsAt (by_key order es) k j = record { within = omega (arith, low, long); at = key } in
    subst (λ (x : List ℤ × Numbers). CanJoin x.1 v) (told_at order es o j low d d) (fits.at _ (read_at (by_key order es) k j d o.rises at))

-- no entry is told of twice, since keys rise
not_less : (r : Ordering) → r ≡ Less → r ≡ Equal → ⊥
not_less r a b = let both : Less ≡ Equal = sym a ∙ b in cc

not_before : (order : List ℕ) (es : List (List ℤ × Numbers)) (j k : ℕ) → IsOrder order es → j < k → k < length es → get_or order j 0 ≡ get_or order k 0 → ⊥
not_before order es j k o l m e =
    let long = order_long order es o in
    let x = get_or (by_key order es) k no_entry in
    let low : j < length es = omega (arith, l, m) in
    let same : get_or (by_key order es) j no_entry ≡ x =
    by_key_at order es long j no_entry low ∙ ap (λ p. get_or es p no_entry) e ∙ sym (by_key_at order es long k no_entry m) in
    let all = length-by_key order es long in
    not_less (key_cmp x.0 x.0) (ap (λ (y : List ℤ × Numbers). key_cmp y.0 x.0) (sym same) ∙ apart (by_key order es) j k no_entry o.rises l (omega (arith, all, m))) (tied_itself total x.0)

pub one_place : (order : List ℕ) (es : List (List ℤ × Numbers)) (j k : ℕ) → IsOrder order es → j < length es → k < length es → get_or order j 0 ≡ get_or order k 0 → j ≡ k
one_place order es j k o l m e =
    ⊎_elim (λ (w : j < k). absurd (not_before order es j k o w m e))
    (λ (w : k ≤ j). ⊎_elim (λ (v : k ≡ j). sym v) (λ (v : k < j). absurd (not_before order es k j o v l (sym e))) (eq-or-lt_of_le w))
    (lt_or j k)

-- ---- written over

picked_away : (ps : List ℕ) (es : List (List ℤ × Numbers)) (p : ℕ) (x : List ℤ × Numbers) → ((k : ℕ) → k < length ps → get_or ps k 0 ≡ p → ⊥) → picked_entries ps (set es p x) ≡ picked_entries ps es
picked_away [] es p x h = refl
picked_away (q ∷ ps) es p x h =
    ap₂ (λ (y : List ℤ × Numbers) (ys : List (List ℤ × Numbers)). y ∷ ys) (get_or-set_other es p q x no_entry (λ e. h 0 (omega arith) e))
    (picked_away ps es p x (λ k l e. h (suc k) (omega (arith, l)) e))

picked_set : (ps : List ℕ) (es : List (List ℤ × Numbers)) (p j : ℕ) (x : List ℤ × Numbers) → j < length ps → get_or ps j 0 ≡ p → p < length es
    → ((k : ℕ) → k < length ps → get_or ps k 0 ≡ p → k ≡ j) → picked_entries ps (set es p x) ≡ set (picked_entries ps es) j x
picked_set [] es p j x l e m h = absurd (omega (arith, l))
picked_set (q ∷ ps) es p zero x l e m h =
    ap₂ (λ (y : List ℤ × Numbers) (ys : List (List ℤ × Numbers)). y ∷ ys) (ap (λ r. get_or (set es p x) r no_entry) e ∙ get_or-set_same es p x no_entry m)
    (picked_away ps es p x (λ k n f. let w : suc k ≡ 0 = h (suc k) (omega (arith, n)) f in absurd (omega (arith, w))))
picked_set (q ∷ ps) es p (suc j) x l e m h =
    ap₂ (λ (y : List ℤ × Numbers) (ys : List (List ℤ × Numbers)). y ∷ ys) (get_or-set_other es p q x no_entry (λ f. let w : 0 ≡ suc j = h 0 (omega arith) f in absurd (omega (arith, w))))
    (picked_set ps es p j x (omega (arith, l)) e m (λ k n f. let w : suc k ≡ suc j = h (suc k) (omega (arith, n)) f in omega (arith, w)))

-- one entry joined with more, whose place by key is the j-th
module _ (order : List ℕ) (es gs : List (List ℤ × Numbers)) (k : List ℤ) (p j : ℕ) (v : Numbers) (o : IsOrder order es) (low : j < length es) (told : get_or order j 0 ≡ p)
    (key : (d : List ℤ × Numbers) → (get_or (by_key order es) j d).0 ≡ k)
    (new : gs ≡ set es p ((get_or es p no_entry).0, join_numbers (get_or es p no_entry).1 v)) where
  same_long : length gs ≡ length es
  same_long = ap length new ∙ length-set es p _

  at : IsAt (by_key order es) k j
  at = record { within = let l = length-by_key order es (order_long order es o) in omega (arith, l, low); at = key }

  set_by_key : by_key order gs ≡ set (by_key order es) j ((get_or (by_key order es) j no_entry).0, join_numbers (get_or (by_key order es) j no_entry).1 v)
  set_by_key =
      let long = order_long order es o in
      let front = length-take-le (length es) order long in
      let x : List ℤ × Numbers = ((get_or es p no_entry).0, join_numbers (get_or es p no_entry).1 v) in
      let here : get_or es p no_entry ≡ get_or (by_key order es) j no_entry = ap (λ q. get_or es q no_entry) (sym told) ∙ sym (by_key_at order es long j no_entry low) in
      ap (λ n. picked_entries (take n order) gs) same_long
      ∙ ap (picked_entries (take (length es) order)) new
      ∙ picked_set (take (length es) order) es p j x (omega (arith, front, low)) (get_or-take (length es) order j 0 low ∙ told)
      (subst (λ q. q < length es) told (place_within order es long j low o.within))
      (λ i l e. let m : i < length es = omega (arith, front, l) in one_place order es i j o m low (sym (get_or-take (length es) order i 0 m) ∙ e ∙ sym told))
      ∙ ap (λ (y : List ℤ × Numbers). set (by_key order es) j (y.0, join_numbers y.1 v)) here

  pub joined_order : IsOrder order gs
  joined_order = record {
    long = o.long;
    few = subst (λ n. n ≤ 128) (sym same_long) o.few;
    within = subst (λ n. AllByRecursion (λ q. q < n) (take n order)) (sym same_long) o.within;
    each = λ q l. let w = o.each q (subst (λ n. q < n) same_long l) in (w.0, subst (λ n. w.0 < n) (sym same_long) w.1, w.2);
    rises = wrote_rises (by_key order es) (by_key order gs) k j no_entry v o.rises at set_by_key;
  }

  pub joined_part : young_part order gs ≡ with_row (young_part order es) k v
  joined_part = wrote_part (by_key order es) (by_key order gs) k j no_entry v o.rises at set_by_key

-- ---- one more

picked_more : (ps : List ℕ) (es : List (List ℤ × Numbers)) (x : List ℤ × Numbers) → AllByRecursion (λ p. p < length es) ps → picked_entries ps (es ++ x ∷ []) ≡ picked_entries ps es
picked_more [] es x h = refl
picked_more (p ∷ ps) es x h = ap₂ (λ (y : List ℤ × Numbers) (ys : List (List ℤ × Numbers)). y ∷ ys) (get_or_append_left es (x ∷ []) no_entry p h.0) (picked_more ps es x h.1)

map_insert : (f : ℕ → List ℤ × Numbers) (ps : List ℕ) (i n : ℕ) → map f (insert ps i n) ≡ insert (map f ps) i (f n)
map_insert f ps i n =
    map-append f (take i ps) (n ∷ drop i ps)
    ∙ ap₂ (λ (a : List (List ℤ × Numbers)) (b : List (List ℤ × Numbers)). a ++ f n ∷ b) (sym (take-map f i ps)) (sym (drop-map f i ps))

all_more : (n : ℕ) (ps : List ℕ) → AllByRecursion (λ p. p < n) ps → AllByRecursion (λ p. p < n + 1) ps
all_more n [] h = tt
all_more n (p ∷ ps) h = (let a = h.0 in omega (arith, a), all_more n ps h.1)

all_cut : (n i : ℕ) (ps : List ℕ) → AllByRecursion (λ p. p < n) ps → AllByRecursion (λ p. p < n) (take i ps) × AllByRecursion (λ p. p < n) (drop i ps)
all_cut n zero ps h = (tt, h)
all_cut n (suc i) [] h = (tt, tt)
all_cut n (suc i) (p ∷ ps) h = let w = all_cut n i ps h.1 in ((h.0, w.0), w.1)

all_insert : (n i : ℕ) (ps : List ℕ) → AllByRecursion (λ p. p < n) ps → AllByRecursion (λ p. p < n + 1) (insert ps i n)
all_insert n i ps h =
    let w = all_cut n i ps h in
    all_append (λ p. p < n + 1) (take i ps) (n ∷ drop i ps) (all_more n (take i ps) w.0) (omega arith, all_more n (drop i ps) w.1)

-- a new entry behind all others, whose place is put before the i-th
module _ (old new : List ℕ) (es gs : List (List ℤ × Numbers)) (k : List ℤ) (i : ℕ) (v : Numbers) (o : IsOrder old es) (gap : IsGap (by_key old es) k i)
    (long : length new ≡ length old) (few : length es < 128)
    (put : take (length es + 1) new ≡ insert (take (length es) old) i (length es))
    (more : gs ≡ es ++ (k, v) ∷ []) where
  one_more : length gs ≡ length es + 1
  one_more = ap length more ∙ length-append es ((k, v) ∷ [])

  within_i : i ≤ length (take (length es) old)
  within_i = let w = gap.within in let a = length-by_key old es (order_long old es o) in let b = length-take-le (length es) old (order_long old es o) in omega (arith, w, a, b)

  put_by_key : by_key new gs ≡ insert (by_key old es) i (k, v)
  put_by_key =
      ap (λ m. picked_entries (take m new) gs) one_more
      ∙ ap₂ picked_entries put more
      ∙ map_insert (λ p. get_or (es ++ (k, v) ∷ []) p no_entry) (take (length es) old) i (length es)
      ∙ ap₂ (λ (l : List (List ℤ × Numbers)) (y : List ℤ × Numbers). insert l i y) (picked_more (take (length es) old) es (k, v) o.within) (get_or_push es (k, v) no_entry (length es) refl)

  told_new : (j : ℕ) → j < length es + 1 → get_or new j 0 ≡ get_or (insert (take (length es) old) i (length es)) j 0
  told_new j h = sym (get_or-take (length es + 1) new j 0 h) ∙ ap (λ l. get_or l j 0) put

  told_old : (p j : ℕ) → j < length es → get_or old j 0 ≡ p → (m : ℕ) × (m < length es + 1) × (get_or new m 0 ≡ p)
  told_old p j l e =
      ⊎_elim
      (λ (w : j < i). (j, omega (arith, l), told_new j (omega (arith, l)) ∙ get_or-insert_below (take (length es) old) i (length es) 0 j w within_i ∙ get_or-take (length es) old j 0 l ∙ e))
      (λ (w : i ≤ j). (j + 1, omega (arith, l), told_new (j + 1) (omega (arith, l)) ∙ get_or-insert_above (take (length es) old) i (length es) 0 j w within_i ∙ get_or-take (length es) old j 0 l ∙ e))
      (lt_or j i)

  told_last : (m : ℕ) × (m < length es + 1) × (get_or new m 0 ≡ length es)
  told_last =
      let w = within_i in
      let a = length-take-le (length es) old (order_long old es o) in
      (i, omega (arith, w, a), told_new i (omega (arith, w, a)) ∙ get_or-insert_at (take (length es) old) i (length es) 0 within_i)

  told_each : (p : ℕ) → p < length es + 1 → (m : ℕ) × (m < length es + 1) × (get_or new m 0 ≡ p)
  told_each p h =
      ⊎_elim (λ (w : p < length es). let s = o.each p w in told_old p s.0 s.1 s.2)
      (λ (w : length es ≤ p). let e : length es ≡ p = omega (arith, w, h) in subst (λ q. (m : ℕ) × (m < length es + 1) × (get_or new m 0 ≡ q)) e told_last)
      (lt_or p (length es))

  pub put_order : IsOrder new gs
  put_order = record {
    long = long ∙ o.long;
    few = let a = one_more in omega (arith, a, few);
    within = subst (λ m. AllByRecursion (λ p. p < m) (take m new)) (sym one_more) (subst (AllByRecursion (λ p. p < length es + 1)) (sym put) (all_insert (length es) i (take (length es) old) o.within));
    each = subst (λ a. (p : ℕ) → p < a → (m : ℕ) × (m < a) × (get_or new m 0 ≡ p)) (sym one_more) told_each;
    rises = filled_rises (by_key old es) (by_key new gs) k i v o.rises gap put_by_key;
  }

  pub put_part : young_part new gs ≡ with_row (young_part old es) k v
  put_part = filled_part (by_key old es) (by_key new gs) k i v o.rises gap put_by_key

-- ---- layouts

pub picked_layout : (l : Layout) (ps : List ℕ) (es : List (List ℤ × Numbers)) → HaveLayout l es → AllByRecursion (λ p. p < length es) ps → HaveLayout l (picked_entries ps es)
picked_layout l [] es h w = tt
picked_layout l (p ∷ ps) es h w = (all_at (HasLayout l) es p (get_or es p no_entry) w.0 (get_or_default es p no_entry (get_or es p no_entry) w.0) h, picked_layout l ps es h w.1)

-- ---- places moved up for one more

cut_behind : (i n : ℕ) (xs : List ℕ) → i ≤ n → drop i (take n xs) ≡ take (n - i) (drop i xs)
cut_behind i n xs h = let all : n ≡ i + (n - i) = omega (arith, h) in ap (λ m. drop i (take m xs)) all ∙ drop-take i (n - i) xs

pub moved_up : (xs : List ℕ) (count i place : ℕ) → i ≤ count → count < length xs → take (count + 1) (set (copy_within xs i count (i + 1)) i place) ≡ insert (take count xs) i place
moved_up xs count i place h l =
    let size : count + 1 ≡ i + 1 + (count - i) = omega (arith, h) in
    let front = length-take-le i xs (omega (arith, h, l)) in
    let behind = length-drop i xs in
    let here : take (i + 1) xs ≡ take i xs ++ get_or xs i 0 ∷ [] = take_more xs i 0 (omega (arith, h, l)) in
    take-set-lt (count + 1) (copy_within xs i count (i + 1)) i place (omega (arith, h))
    ∙ ap (λ ys. set ys i place) (ap (λ m. take m (copy_within xs i count (i + 1))) size
    ∙ take-paste xs (i + 1) (drop i xs) (count - i) (omega (arith, h, l)) (omega (arith, l, behind))
    ∙ ap (λ ys. ys ++ take (count - i) (drop i xs)) here
    ∙ append_assoc (take i xs) (get_or xs i 0 ∷ []) (take (count - i) (drop i xs)))
    ∙ ap (λ m. set (take i xs ++ get_or xs i 0 ∷ take (count - i) (drop i xs)) m place) (sym front)
    ∙ set-append_seam (take i xs) (get_or xs i 0) (take (count - i) (drop i xs)) place
    ∙ ap₂ (λ (ys : List ℕ) (zs : List ℕ). ys ++ place ∷ zs) (sym (take-take i count xs h)) (sym (cut_behind i count xs h))
