-- Windows of a tree map, and windows by number.
use Rattle.std.proofs.Common.{◌≡◌, ℕ, zero, suc, ◌+◌, ◌-◌, ◌≤◌, ◌<◌, List, [], ◌∷◌, ◌++◌, map, flat_map, cond, nat_lt, Bool, true, false, T, Some, unwrap_or, refl, sym, ◌∙◌, ap, subst, ⊎_elim, nat_cmp, arith}
use Rattle.std.proofs.lemmas.Bool.{cases_eq, lt-ltb, le-ltb}
use Rattle.std.proofs.lemmas.Bool.Decides.{nat_tests}
use Rattle.std.proofs.lemmas.List.Concat.{flat_map-append}
use Rattle.std.specs.Ordering.{is_lt}
use Rattle.std.specs.Cmp.{nat_cmp_total}
use Rattle.std.specs.FinMap.{find, is_sorted, get-from_entries}
use Rattle.std.specs.FinMap.Entries.{below_all}
use Rattle.saber_plan.specs.Windows.{from}
use Rattle.saber_plan.specs.Facts.Lists.{Each, T_parts}
use Rattle.saber_plan.specs.Facts.Numbers.{flat_map-from, flat_none, from_more}
use Rattle.saber_select.specs.Found.{Found}
use Rattle.saber_select.specs.Open.{seen_windows, rows_in}
use Rattle.saber_select.proofs.Putting.{same_number, other_number}

abbrev pub Numbered : Type 0
Numbered = ℕ × List Found

abbrev pub seen : List Numbered → List Numbered
seen es = map (λ e. (e.0, e.1)) es

-- the rows of window i
abbrev pub rows_among : List Numbered → ℕ → List Found
rows_among es i = (unwrap_or (find nat_cmp i (seen es)) [])

pub rows_among_in : (es : List Numbered) (i : ℕ) → rows_among es i ≡ rows_in (seen_windows es) i
rows_among_in es i = ap (λ o. unwrap_or o []) (sym (get-from_entries nat_cmp_total (seen es) i))

-- ---- numbers that rise

-- from a on
abbrev pub Rise : ℕ → List Numbered → Type 0
Rise a [] = Unit {0}
Rise a (e ∷ es) = (a ≤ e.0) × Rise (e.0 + 1) es

less_number : (a b : ℕ) → T (is_lt (nat_cmp a b)) → a + 1 ≤ b
less_number a b h = grind (arith, nat_tests)

each_above : (k : ℕ) (es : List Numbered) → T (below_all nat_cmp k (seen es)) → Each (λ (e : Numbered). k + 1 ≤ e.0) es
each_above k [] h = tt
each_above k (e ∷ es) h = let p = T_parts _ _ h in (less_number k e.0 p.0, each_above k es p.1)

rise_from : (a : ℕ) (es : List Numbered) → T (is_sorted nat_cmp (seen es)) → Each (λ (e : Numbered). a ≤ e.0) es → Rise a es
rise_from a [] s h = tt
rise_from a (e ∷ es) s h = let p = T_parts _ _ s in (h.0, rise_from (e.0 + 1) es p.1 (each_above e.0 es p.0))

each_number : (es : List Numbered) → Each (λ (e : Numbered). 0 ≤ e.0) es
each_number [] = tt
each_number (e ∷ es) = (omega arith, each_number es)

pub rise_all : (es : List Numbered) → T (is_sorted nat_cmp (seen es)) → Rise 0 es
rise_all es s = rise_from 0 es s (each_number es)

here : (e : Numbered) (es : List Numbered) → rows_among (e ∷ es) e.0 ≡ e.1
here e es = ap (λ b. (unwrap_or (cond b (Some e.1) (find nat_cmp e.0 (seen es))) [])) (same_number e.0 e.0 refl)

there : (e : Numbered) (es : List Numbered) (i : ℕ) → (i ≡ e.0 → ⊥) → rows_among (e ∷ es) i ≡ rows_among es i
there e es i h = ap (λ b. (unwrap_or (cond b (Some e.1) (find nat_cmp i (seen es))) [])) (other_number i e.0 h)

below : (a : ℕ) (es : List Numbered) (i : ℕ) → Rise a es → i < a → rows_among es i ≡ []
below a [] i r h = refl
below a (e ∷ es) i r h = let up = r.0 in there e es i (λ q. omega (arith, q, h, up)) ∙ below (e.0 + 1) es i r.1 (omega (arith, h, up))

-- ---- what they give

module _ {X : Type 0} (g : ℕ → List Found → List X) (none : (i : ℕ) → g i [] ≡ []) where
  all_none : (a : ℕ) (es : List Numbered) → Rise a es → ((i : ℕ) → a ≤ i → rows_among es i ≡ []) → flat_map (λ e. g e.0 e.1) es ≡ []
  all_none a [] r h = refl
  all_none a (e ∷ es) r h =
      let up = r.0 in
      λ j. (ap (g e.0) (sym (here e es) ∙ h e.0 up) ∙ none e.0) j ++ all_none (e.0 + 1) es r.1 (λ i k. sym (there e es i (λ q. omega (arith, q, k))) ∙ h i (omega (arith, k, up))) j

  -- windows that have none may be left out
  spread : (n a : ℕ) (es : List Numbered) (p : ℕ → List Found) → Rise a es → ((i : ℕ) → a ≤ i → rows_among es i ≡ p i) → ((i : ℕ) → a + n ≤ i → p i ≡ []) → flat_map (λ e. g e.0 e.1) es ≡ flat_map (λ i. g i (p i)) (from a n)
  unfolding from
  spread zero a es p r h k = all_none a es r (λ i l. h i l ∙ k i (omega (arith, l)))
  spread (suc n) a [] p r h k = λ j. sym (ap (g a) (sym (h a (omega arith))) ∙ none a) j ++ spread n (a + 1) [] p tt (λ i l. h i (omega (arith, l))) (λ i l. k i (omega (arith, l))) j
  spread (suc n) a (e ∷ es) p r h k = ⊎_elim
      (λ q.
      let v : e.1 ≡ p a = sym (here e es) ∙ h e.0 r.0 ∙ ap p (sym q) in
      λ j. g (sym q j) (v j) ++ spread n (a + 1) es p (subst (λ b. Rise (b + 1) es) (sym q) r.1) (λ i l. sym (there e es i (λ s. omega (arith, q, s, l))) ∙ h i (omega (arith, l))) (λ i l. k i (omega (arith, l))) j)
      (λ q.
      let up = r.0 in
      let more : Rise (a + 1) (e ∷ es) = (omega (arith, up, q), r.1) in
      let out : p a ≡ [] = sym (h a (omega arith)) ∙ below (a + 1) (e ∷ es) a more (omega arith) in
      spread n (a + 1) (e ∷ es) p more (λ i l. h i (omega (arith, l))) (λ i l. k i (omega (arith, l))) ∙ sym (λ j. (ap (g a) out ∙ none a) j ++ flat_map (λ i. g i (p i)) (from (a + 1) n)))
      (cases_eq a e.0)

  -- what the windows of a tree map give is what windows give by number, from the first that isn't
  -- closed up to the last that is begun
  module _ (at : ℕ → List Found) (c n : ℕ) (order : c ≤ n) (ends : (i : ℕ) → n ≤ i → at i ≡ []) where
    abbrev held_at : ℕ → List Found
    held_at i = cond (nat_lt i c) [] (at i)

    low_case : (b : Bool) (p : List Found) → p ≡ [] → cond b [] p ≡ []
    low_case true p h = refl
    low_case false p h = h

    pub by_number : (es : List Numbered) → T (is_sorted nat_cmp (seen es)) → ((i : ℕ) → rows_among es i ≡ held_at i) → flat_map (λ e. g e.0 e.1) es ≡ flat_map (λ i. g i (at i)) (from c (n - c))
    by_number es s h =
        let whole : n - 0 ≡ n = omega arith in
        let to : c - 0 ≡ c = omega arith in
        spread n 0 es held_at (rise_all es s) (λ i l. h i) (λ i l. low_case (nat_lt i c) (at i) (ends i (omega (arith, l))))
        ∙ ap (λ k. flat_map (λ i. g i (held_at i)) (from 0 k)) (sym whole)
        ∙ ap (flat_map (λ i. g i (held_at i))) (from_more 0 c n (omega arith) order ∙ ap (λ k. from 0 k ++ from c (n - c)) to)
        ∙ flat_map-append (λ i. g i (held_at i)) (from 0 c) (from c (n - c))
        ∙ (λ j. flat_none (λ i. g i (held_at i)) 0 c (λ i l r. ap (λ b. g i (cond b [] (at i))) (lt-ltb i c (omega (arith, r))) ∙ none i) j ++ flat_map (λ i. g i (held_at i)) (from c (n - c)))
        ∙ flat_map-from (λ i. g i (held_at i)) (λ i. g i (at i)) c (n - c) (λ i l r. ap (λ b. g i (cond b [] (at i))) (le-ltb i c l))
