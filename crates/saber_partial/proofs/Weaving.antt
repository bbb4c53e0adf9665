-- The entries of two lists by key, as the merge of two parts.
use Rattle.std.proofs.Common.{◌≡◌, ℕ, suc, ◌+◌, ◌-◌, ◌<◌, ◌≤◌, T, List, [], ◌∷◌, ◌++◌, length, get_or, take, drop, append_assoc, append-nil, ◌⊎◌, inl, inr, ℤ, Bool, true, false, cond, Option, Some, None, refl, sym, ◌∙◌, ap, ap₂, subst, ⊎_elim, arith}
use Rattle.std.proofs.lemmas.List.{drop_more, drop-drop, drop-set-lt, get_or-drop, get_or-take, get_or_push, length-set, length-take, take-append-drop, take_more_set}
use Rattle.std.proofs.Math.Seq.{set-append_seam}
use Rattle.std.proofs.Math.ListN.{set}
use Rattle.std.proofs.Math.Nat.{eq-or-lt_of_le}
use Rattle.std.specs.declared.cmp.Ordering.{Ordering}
use Rattle.std.specs.declared.cmp.Ordering.TheVariants.{Less, Equal, Greater}
use Rattle.std.specs.Ordering.{eq_by_cmp, is_lt}
use Rattle.std.specs.Map.{keys_of}
use Rattle.std.specs.FinMap.{find, get-from_entries, same_map}
use Rattle.std.specs.FinMap.Entries.{below_all, by_order, find_tied}
use Rattle.saber_plan.specs.Answers.{key_cmp}
use Rattle.saber_plan.specs.Merges.{join}
use Rattle.saber_plan.specs.Parts.{Numbers, join_numbers, merge}
use Rattle.saber_plan.specs.Facts.Lists.{T_parts, and_T}
use Rattle.saber_plan.specs.Facts.Maps.{equal_if, get-both, not_below, rest_rises, join-none}
use Rattle.saber_plan.specs.Facts.Parts.{total, exact}
use Rattle.saber_partial.specs.Sorted.{part_of, Rises, joined_each, weave, AllBelow}
use Rattle.saber_partial.proofs.Rising.{less, turned, turned_back}

less_T : (o : Ordering) → o ≡ Less → T (is_lt o)
less_T o e = subst (λ r. T (is_lt r)) (sym e) tt

below_less : (x y : List ℤ) (es : List (List ℤ × Numbers)) → key_cmp x y ≡ Less → T (below_all key_cmp y es) → T (below_all key_cmp x es)
below_less x y [] p h = tt
below_less x y (e ∷ es) p h = and_T _ _ (less_T _ (total.trans x y e.0 p (less _ (T_parts _ _ h).0))) (below_less x y es p (T_parts _ _ h).1)

-- ---- the same keys

below_joined : (x : List ℤ) (es fs : List (List ℤ × Numbers)) → T (below_all key_cmp x es) → T (below_all key_cmp x (joined_each es fs))
below_joined x [] fs h = h
below_joined x (e ∷ es) [] h = h
below_joined x (e ∷ es) (f ∷ fs) h = and_T _ _ (T_parts _ _ h).0 (below_joined x es fs (T_parts _ _ h).1)

pub joined_rises : (es fs : List (List ℤ × Numbers)) → Rises es → Rises (joined_each es fs)
joined_rises [] fs s = s
joined_rises (e ∷ es) [] s = s
joined_rises (e ∷ es) (f ∷ fs) s = and_T _ _ (below_joined e.0 es fs (T_parts _ _ s).0) (joined_rises es fs (T_parts _ _ s).1)

found_case : (b : Bool) (x y : Numbers) (o p : Option Numbers) → cond b (Some (join_numbers x y)) (join join_numbers o p) ≡ join join_numbers (cond b (Some x) o) (cond b (Some y) p)
found_case true x y o p = refl
found_case false x y o p = refl

-- what a key has
find_joined : (q : List ℤ) (es fs : List (List ℤ × Numbers)) → keys_of es ≡ keys_of fs → find key_cmp q (joined_each es fs) ≡ join join_numbers (find key_cmp q es) (find key_cmp q fs)
find_joined q [] [] h = refl
find_joined q [] (g ∷ fs) h = cc
find_joined q (e ∷ es) [] h = cc
find_joined q (e ∷ es) (g ∷ fs) h =
    let first : e.0 ≡ g.0 = cc in
    let others : keys_of es ≡ keys_of fs = cc in
    ap (cond (eq_by_cmp key_cmp q e.0) (Some (join_numbers e.1 g.1))) (find_joined q es fs others)
    ∙ found_case (eq_by_cmp key_cmp q e.0) e.1 g.1 (find key_cmp q es) (find key_cmp q fs)
    ∙ ap (λ k. join join_numbers (cond (eq_by_cmp key_cmp q e.0) (Some e.1) (find key_cmp q es)) (cond (eq_by_cmp key_cmp q k) (Some g.1) (find key_cmp q fs))) first

-- entries that have of each key what both have are the merge
is_merge : (es fs gs : List (List ℤ × Numbers)) → ((q : List ℤ) → find key_cmp q gs ≡ join join_numbers (find key_cmp q es) (find key_cmp q fs)) → part_of gs ≡ merge (part_of es) (part_of fs)
is_merge es fs gs h = same_map total exact _ _ (λ q. get-from_entries total gs q ∙ h q
    ∙ sym (get-both total join_numbers (part_of es) (part_of fs) q ∙ ap₂ (join join_numbers) (get-from_entries total es q) (get-from_entries total fs q)))

pub joined_merge : (es fs : List (List ℤ × Numbers)) → keys_of es ≡ keys_of fs → part_of (joined_each es fs) ≡ merge (part_of es) (part_of fs)
joined_merge es fs h = is_merge es fs (joined_each es fs) (λ q. find_joined q es fs h)

-- ---- any keys: the next entry

pub weave_none : (es : List (List ℤ × Numbers)) → weave es [] ≡ es
weave_none [] = refl
weave_none (e ∷ es) = ap (λ l. e ∷ l) (weave_none es)

module _ (e f : List ℤ × Numbers) (es fs : List (List ℤ × Numbers)) where
  next : Ordering → List (List ℤ × Numbers)
  next r = by_order r (e ∷ weave es (f ∷ fs)) ((e.0, join_numbers e.1 f.1) ∷ weave es fs) (f ∷ weave (e ∷ es) fs)

  pub weave_less : key_cmp e.0 f.0 ≡ Less → weave (e ∷ es) (f ∷ fs) ≡ e ∷ weave es (f ∷ fs)
  unfolding next
  weave_less h = ap next h

  pub weave_equal : key_cmp e.0 f.0 ≡ Equal → weave (e ∷ es) (f ∷ fs) ≡ (e.0, join_numbers e.1 f.1) ∷ weave es fs
  unfolding next
  weave_equal h = ap next h

  pub weave_greater : key_cmp e.0 f.0 ≡ Greater → weave (e ∷ es) (f ∷ fs) ≡ f ∷ weave (e ∷ es) fs
  unfolding next
  weave_greater h = ap next h

-- ---- they rise

below_in : (x : List ℤ) (e : List ℤ × Numbers) (es fs : List (List ℤ × Numbers)) → T (is_lt (key_cmp x e.0)) → ((gs : List (List ℤ × Numbers)) → T (below_all key_cmp x gs) → T (below_all key_cmp x (weave es gs)))
    → T (below_all key_cmp x fs) → T (below_all key_cmp x (weave (e ∷ es) fs))
below_in x e es [] p rest h = and_T _ _ p (rest [] tt)
below_in x e es (f ∷ fs) p rest h =
    elim (key_cmp e.0 f.0) as (λ r. T (below_all key_cmp x (by_order r (e ∷ weave es (f ∷ fs)) ((e.0, join_numbers e.1 f.1) ∷ weave es fs) (f ∷ weave (e ∷ es) fs)))) [
      | Less ↦ and_T _ _ p (rest (f ∷ fs) h)
      | Equal ↦ and_T _ _ p (rest fs (T_parts _ _ h).1)
      | Greater ↦ and_T _ _ (T_parts _ _ h).0 (below_in x e es fs p rest (T_parts _ _ h).1)
    ]

below_weave : (x : List ℤ) (es fs : List (List ℤ × Numbers)) → T (below_all key_cmp x es) → T (below_all key_cmp x fs) → T (below_all key_cmp x (weave es fs))
below_weave x [] fs g h = h
below_weave x (e ∷ es) fs g h = below_in x e es fs (T_parts _ _ g).0 (λ gs. below_weave x es gs (T_parts _ _ g).1) h

rises_in : (e : List ℤ × Numbers) (es fs : List (List ℤ × Numbers)) → Rises (e ∷ es) → ((gs : List (List ℤ × Numbers)) → Rises gs → Rises (weave es gs)) → Rises fs → Rises (weave (e ∷ es) fs)
rises_in e es [] s rest t = and_T _ _ (below_weave e.0 es [] (T_parts _ _ s).0 tt) (rest [] tt)
rises_in e es (f ∷ fs) s rest t =
    elim (key_cmp e.0 f.0) as (λ r. key_cmp e.0 f.0 ≡ r → Rises (by_order r (e ∷ weave es (f ∷ fs)) ((e.0, join_numbers e.1 f.1) ∷ weave es fs) (f ∷ weave (e ∷ es) fs))) [
      | Less ↦ λ p. and_T _ _ (below_weave e.0 es (f ∷ fs) (T_parts _ _ s).0 (and_T _ _ (less_T _ p) (below_less e.0 f.0 fs p (T_parts _ _ t).0))) (rest (f ∷ fs) t)
      | Equal ↦ λ p. and_T _ _ (below_weave e.0 es fs (T_parts _ _ s).0 (subst (λ k. T (below_all key_cmp k fs)) (sym (exact e.0 f.0 p)) (T_parts _ _ t).0)) (rest fs (T_parts _ _ t).1)
      | Greater ↦ λ p. and_T _ _ (below_weave f.0 (e ∷ es) fs (and_T _ _ (less_T _ (turned_back e.0 f.0 p)) (below_less f.0 e.0 es (turned_back e.0 f.0 p) (T_parts _ _ s).0)) (T_parts _ _ t).0) (rises_in e es fs s rest (T_parts _ _ t).1)
    ] refl

pub weave_rises : (es fs : List (List ℤ × Numbers)) → Rises es → Rises fs → Rises (weave es fs)
weave_rises [] fs s t = t
weave_rises (e ∷ es) fs s t = rises_in e es fs s (λ gs. weave_rises es gs (rest_rises key_cmp e es s)) t

-- ---- what a key has

first_case : (b : Bool) (x : Numbers) (o p : Option Numbers) → (b ≡ true → p ≡ None) → cond b (Some x) (join join_numbers o p) ≡ join join_numbers (cond b (Some x) o) p
first_case true x o p n = sym (ap (join join_numbers (Some x)) (n refl))
first_case false x o p n = refl

second_case : (b : Bool) (y : Numbers) (o p : Option Numbers) → (b ≡ true → o ≡ None) → cond b (Some y) (join join_numbers o p) ≡ join join_numbers o (cond b (Some y) p)
second_case true y o p n = sym (ap (λ a. join join_numbers a (Some y)) (n refl))
second_case false y o p n = refl

-- a key that ties with one below all of some entries isn't there
none_below : (q k : List ℤ) (es : List (List ℤ × Numbers)) → T (below_all key_cmp k es) → eq_by_cmp key_cmp q k ≡ true → find key_cmp q es ≡ None
none_below q k es h e = sym (find_tied key_cmp total q k (equal_if _ e) es) ∙ not_below key_cmp k es h

find_in : (q : List ℤ) (e : List ℤ × Numbers) (es fs : List (List ℤ × Numbers)) → Rises (e ∷ es) → Rises fs → ((gs : List (List ℤ × Numbers)) → Rises gs → find key_cmp q (weave es gs) ≡ join join_numbers (find key_cmp q es) (find key_cmp q gs))
    → find key_cmp q (weave (e ∷ es) fs) ≡ join join_numbers (find key_cmp q (e ∷ es)) (find key_cmp q fs)
find_in q e es [] s t rest = ap (λ l. find key_cmp q (e ∷ l)) (weave_none es) ∙ sym (join-none join_numbers (find key_cmp q (e ∷ es)))
find_in q e es (f ∷ fs) s t rest =
    elim (key_cmp e.0 f.0) as (λ r. key_cmp e.0 f.0 ≡ r → find key_cmp q (by_order r (e ∷ weave es (f ∷ fs)) ((e.0, join_numbers e.1 f.1) ∷ weave es fs) (f ∷ weave (e ∷ es) fs)) ≡ join join_numbers (find key_cmp q (e ∷ es)) (find key_cmp q (f ∷ fs))) [
      | Less ↦ λ p. ap (cond (eq_by_cmp key_cmp q e.0) (Some e.1)) (rest (f ∷ fs) t)
          ∙ first_case (eq_by_cmp key_cmp q e.0) e.1 (find key_cmp q es) (find key_cmp q (f ∷ fs)) (none_below q e.0 (f ∷ fs) (and_T _ _ (less_T _ p) (below_less e.0 f.0 fs p (T_parts _ _ t).0)))
      | Equal ↦ λ p. ap (cond (eq_by_cmp key_cmp q e.0) (Some (join_numbers e.1 f.1))) (rest fs (T_parts _ _ t).1)
          ∙ found_case (eq_by_cmp key_cmp q e.0) e.1 f.1 (find key_cmp q es) (find key_cmp q fs)
          ∙ ap (λ k. join join_numbers (find key_cmp q (e ∷ es)) (cond (eq_by_cmp key_cmp q k) (Some f.1) (find key_cmp q fs))) (exact e.0 f.0 p)
      | Greater ↦ λ p. ap (cond (eq_by_cmp key_cmp q f.0) (Some f.1)) (find_in q e es fs s (T_parts _ _ t).1 rest)
          ∙ second_case (eq_by_cmp key_cmp q f.0) f.1 (find key_cmp q (e ∷ es)) (find key_cmp q fs) (none_below q f.0 (e ∷ es) (and_T _ _ (less_T _ (turned_back e.0 f.0 p)) (below_less f.0 e.0 es (turned_back e.0 f.0 p) (T_parts _ _ s).0)))
    ] refl

find_weave : (q : List ℤ) (es fs : List (List ℤ × Numbers)) → Rises es → Rises fs → find key_cmp q (weave es fs) ≡ join join_numbers (find key_cmp q es) (find key_cmp q fs)
find_weave q [] fs s t = refl
find_weave q (e ∷ es) fs s t = find_in q e es fs s t (λ gs. find_weave q es gs (rest_rises key_cmp e es s))

pub weave_merge : (es fs : List (List ℤ × Numbers)) → Rises es → Rises fs → part_of (weave es fs) ≡ merge (part_of es) (part_of fs)
weave_merge es fs s t = is_merge es fs (weave es fs) (λ q. find_weave q es fs s t)

-- ---- walks

-- what is left of a list is that of another
pub left_same : (gs es : List (List ℤ × Numbers)) (i : ℕ) (d : List ℤ × Numbers) → drop i gs ≡ drop i es → length gs ≡ length es → i < length es → (get_or gs i d ≡ get_or es i d) × (drop (i + 1) gs ≡ drop (i + 1) es)
left_same gs es i d h l low =
    let a = drop_more gs i d (omega (arith, l, low)) in
    let b = drop_more es i d low in
    let both : get_or gs i d ∷ drop (i + 1) gs ≡ get_or es i d ∷ drop (i + 1) es = sym a ∙ h ∙ b in
    (cc, cc)

-- one entry alone
pub joined_alone : (es fs : List (List ℤ × Numbers)) (d : List ℤ × Numbers) → length es ≡ 1 → 0 < length fs
    → set es 0 ((get_or es 0 d).0, join_numbers (get_or es 0 d).1 (get_or fs 0 d).1) ≡ joined_each es fs
joined_alone [] fs d h g = absurd (omega (arith, h))
joined_alone (e ∷ es) [] d h g = absurd (omega (arith, g))
joined_alone (e ∷ []) (f ∷ fs) d h g = refl
joined_alone (e ∷ x ∷ es) (f ∷ fs) d h g = absurd (omega (arith, h))

-- one more entry joined
module _ (gs hs es fs : List (List ℤ × Numbers)) (i : ℕ) (d : List ℤ × Numbers) (low : i < length es) (more : i < length fs)
    (long : length gs ≡ length es) (left : drop i gs ≡ drop i es)
    (new : hs ≡ set gs i ((get_or gs i d).0, join_numbers (get_or gs i d).1 (get_or fs i d).1)) where
  pub joined_long : length hs ≡ length es
  joined_long = ap length new ∙ length-set gs i _ ∙ long

  pub joined_left : drop (i + 1) hs ≡ drop (i + 1) es
  joined_left = ap (drop (i + 1)) new ∙ drop-set-lt (i + 1) gs i _ (omega arith) ∙ (left_same gs es i d left long low).1

  pub joined_done : take (i + 1) hs ++ joined_each (drop (i + 1) es) (drop (i + 1) fs) ≡ take i gs ++ joined_each (drop i es) (drop i fs)
  joined_done =
      let v : List ℤ × Numbers = ((get_or gs i d).0, join_numbers (get_or gs i d).1 (get_or fs i d).1) in
      let mine : drop i es ≡ get_or gs i d ∷ drop (i + 1) es =
      drop_more es i d low ∙ ap (λ e. e ∷ drop (i + 1) es) (sym (left_same gs es i d left long low).0) in
      let rest = joined_each (drop (i + 1) es) (drop (i + 1) fs) in
      ap (λ l. take (i + 1) l ++ rest) new
      ∙ ap (λ l. l ++ rest) (take_more_set gs i v (omega (arith, low, long)))
      ∙ append_assoc (take i gs) (v ∷ []) rest
      ∙ sym (ap₂ (λ l m. take i gs ++ joined_each l m) mine (drop_more fs i d more))

-- the next entry of two lists, by the order of their first ones
module _ (out es fs : List (List ℤ × Numbers)) (i j : ℕ) (d : List ℤ × Numbers) (low : i < length es) (more : j < length fs) where
  step : (x : List ℤ × Numbers) (rest : List (List ℤ × Numbers)) → weave (get_or es i d ∷ drop (i + 1) es) (get_or fs j d ∷ drop (j + 1) fs) ≡ x ∷ rest
      → (out ++ x ∷ []) ++ rest ≡ out ++ weave (drop i es) (drop j fs)
  step x rest h = append_assoc out (x ∷ []) rest ∙ ap (λ l. out ++ l) (sym (ap₂ weave (drop_more es i d low) (drop_more fs j d more) ∙ h))

  pub woven_equal : key_cmp (get_or es i d).0 (get_or fs j d).0 ≡ Equal
      → (out ++ ((get_or es i d).0, join_numbers (get_or es i d).1 (get_or fs j d).1) ∷ []) ++ weave (drop (i + 1) es) (drop (j + 1) fs) ≡ out ++ weave (drop i es) (drop j fs)
  woven_equal h = step _ (weave (drop (i + 1) es) (drop (j + 1) fs)) (weave_equal _ _ _ _ h)

-- some entries at once, all below the next of the other list
run_less : (xs es : List (List ℤ × Numbers)) (f : List ℤ × Numbers) (fs : List (List ℤ × Numbers)) → ((k : ℕ) (d : List ℤ × Numbers) → k < length xs → key_cmp (get_or xs k d).0 f.0 ≡ Less)
    → xs ++ weave es (f ∷ fs) ≡ weave (xs ++ es) (f ∷ fs)
run_less [] es f fs h = refl
run_less (x ∷ xs) es f fs h =
    ap (λ l. x ∷ l) (run_less xs es f fs (λ k d l. h (suc k) d (omega (arith, l)))) ∙ sym (weave_less x f (xs ++ es) fs (h 0 x (omega arith)))

run_greater : (e : List ℤ × Numbers) (es xs fs : List (List ℤ × Numbers)) → ((k : ℕ) (d : List ℤ × Numbers) → k < length xs → key_cmp (get_or xs k d).0 e.0 ≡ Less)
    → xs ++ weave (e ∷ es) fs ≡ weave (e ∷ es) (xs ++ fs)
run_greater e es [] fs h = refl
run_greater e es (x ∷ xs) fs h =
    ap (λ l. x ∷ l) (run_greater e es xs fs (λ k d l. h (suc k) d (omega (arith, l)))) ∙ sym (weave_greater e x es (xs ++ fs) (turned x.0 e.0 (h 0 x (omega arith))))

-- those of a list from one place up to another
module _ (es : List (List ℤ × Numbers)) (i end : ℕ) (order : i ≤ end) where
  cut : take (end - i) (drop i es) ++ drop end es ≡ drop i es
  cut =
      let far : i + (end - i) ≡ end = omega (arith, order) in
      let rest : drop (end - i) (drop i es) ≡ drop end es = drop-drop (end - i) i es ∙ ap (λ n. drop n es) far in
      ap (λ l. take (end - i) (drop i es) ++ l) (sym rest) ∙ take-append-drop (end - i) (drop i es)

  below_cut : (k : List ℤ) → AllBelow es i end k → (j : ℕ) (d : List ℤ × Numbers) → j < length (take (end - i) (drop i es)) → key_cmp (get_or (take (end - i) (drop i es)) j d).0 k ≡ Less
  below_cut k h j d l =
      let most = length-take (end - i) (drop i es) in
      let low : j < end - i = omega (arith, l, most) in
      ap (λ (x : List ℤ × Numbers). key_cmp x.0 k) (get_or-take (end - i) (drop i es) j d low ∙ get_or-drop i es j d) ∙ h (i + j) d (omega arith) (omega (arith, low))

-- the next entries of two lists, up to the first one of the other
module _ (out es fs : List (List ℤ × Numbers)) (i j : ℕ) (d : List ℤ × Numbers) where
  pub woven_run_less : (end : ℕ) → i ≤ end → j < length fs → AllBelow es i end (get_or fs j d).0
      → (out ++ take (end - i) (drop i es)) ++ weave (drop end es) (drop j fs) ≡ out ++ weave (drop i es) (drop j fs)
  woven_run_less end order more h =
      let f = get_or fs j d in
      let here = drop_more fs j d more in
      let xs = take (end - i) (drop i es) in
      append_assoc out xs (weave (drop end es) (drop j fs))
      ∙ ap (λ l. out ++ l) (ap (λ l. xs ++ weave (drop end es) l) here
      ∙ run_less xs (drop end es) f (drop (j + 1) fs) (below_cut es i end order f.0 h)
      ∙ ap₂ weave (cut es i end order) (sym here))

  pub woven_run_greater : (end : ℕ) → j ≤ end → i < length es → AllBelow fs j end (get_or es i d).0
      → (out ++ take (end - j) (drop j fs)) ++ weave (drop i es) (drop end fs) ≡ out ++ weave (drop i es) (drop j fs)
  woven_run_greater end order low h =
      let e = get_or es i d in
      let here = drop_more es i d low in
      let xs = take (end - j) (drop j fs) in
      append_assoc out xs (weave (drop i es) (drop end fs))
      ∙ ap (λ l. out ++ l) (ap (λ l. xs ++ weave l (drop end fs)) here
      ∙ run_greater e (drop (i + 1) es) xs (drop end fs) (below_cut fs j end order e.0 h)
      ∙ ap₂ weave (sym here) (cut fs j end order))

-- and one before them
pub below_first : (es : List (List ℤ × Numbers)) (m n : ℕ) (k : List ℤ) → ((d : List ℤ × Numbers) → key_cmp (get_or es m d).0 k ≡ Less) → AllBelow es (m + 1) n k → AllBelow es m n k
below_first es m n k one h j d low far =
    ⊎_elim (λ (w : m ≡ j). ap (λ (i : ℕ). key_cmp (get_or es i d).0 k) (sym w) ∙ one d) (λ (w : m < j). h j d (omega (arith, w)) far) (eq-or-lt_of_le low)

-- the last entry joined with more
pub joined_last : (out : List (List ℤ × Numbers)) (e d : List ℤ × Numbers) (v : Numbers) (n : ℕ) → n ≡ length out
    → set (out ++ e ∷ []) n ((get_or (out ++ e ∷ []) n d).0, join_numbers (get_or (out ++ e ∷ []) n d).1 v) ≡ out ++ (e.0, join_numbers e.1 v) ∷ []
joined_last out e d v n h =
    ap (λ (x : List ℤ × Numbers). set (out ++ e ∷ []) n (x.0, join_numbers x.1 v)) (get_or_push out e d n (sym h))
    ∙ ap (λ m. set (out ++ e ∷ []) m (e.0, join_numbers e.1 v)) h
    ∙ set-append_seam out e [] (e.0, join_numbers e.1 v)

pub woven_end : (out xs ys : List (List ℤ × Numbers)) → (xs ≡ []) ⊎ (ys ≡ []) → (out ++ xs) ++ ys ≡ out ++ weave xs ys
woven_end out xs ys (inl e) = append_assoc out xs ys ∙ ap (λ l. out ++ (l ++ ys)) e ∙ ap (λ l. out ++ weave l ys) (sym e)
woven_end out xs ys (inr e) = ap (λ l. (out ++ xs) ++ l) e ∙ append-nil (out ++ xs) ∙ ap (λ l. out ++ l) (sym (weave_none xs)) ∙ ap (λ l. out ++ weave xs l) (sym e)
