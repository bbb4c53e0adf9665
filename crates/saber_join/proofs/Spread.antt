-- Windows of a tree map, and windows by number.
use Rattle.std.proofs.Common.{◌≡◌, ℕ, zero, suc, ◌+◌, ◌≤◌, ◌<◌, List, [], ◌∷◌, ◌++◌, map, flat_map, cond, T, Some, unwrap_or, refl, sym, ◌∙◌, ap, subst, ⊎_elim, nat_cmp, arith}
use Rattle.std.proofs.lemmas.Bool.{cases_eq}
use Rattle.std.proofs.lemmas.Bool.Decides.{nat_tests}
use Rattle.std.specs.Ordering.{is_lt}
use Rattle.std.specs.Cmp.{nat_cmp_total}
use Rattle.std.specs.FinMap.{find, is_sorted, get-from_entries}
use Rattle.std.specs.FinMap.Entries.{below_all}
use Rattle.saber_plan.specs.Windows.{from}
use Rattle.saber_plan.specs.Parts.{Part, no_part}
use Rattle.saber_plan.specs.Facts.Lists.{Each, T_parts}
use Rattle.saber_join.specs.Open.{seen_parts, pairs_in}
use Rattle.saber_join.proofs.Changing.{same_number, other_number}

abbrev pub seen : List (ℕ × Part) → List (ℕ × Part)
seen es = map (λ e. (e.0, e.1)) es

-- the pairs of window i
abbrev pub part_in : List (ℕ × Part) → ℕ → Part
part_in es i = (unwrap_or (find nat_cmp i (seen es)) no_part)

pub part_is_in : (es : List (ℕ × Part)) (i : ℕ) → part_in es i ≡ pairs_in (seen_parts es) i
part_is_in es i = ap (λ o. unwrap_or o no_part) (sym (get-from_entries nat_cmp_total (seen es) i))

-- ---- numbers that rise

-- from a on
abbrev pub Rise : ℕ → List (ℕ × Part) → Type 0
Rise a [] = Unit {0}
Rise a (e ∷ es) = (a ≤ e.0) × Rise (e.0 + 1) es

less_number : (a b : ℕ) → T (is_lt (nat_cmp a b)) → a + 1 ≤ b
less_number a b h = grind (arith, nat_tests)

each_above : (k : ℕ) (es : List (ℕ × Part)) → T (below_all nat_cmp k (seen es)) → Each (λ (e : ℕ × Part). k + 1 ≤ e.0) es
each_above k [] h = tt
each_above k (e ∷ es) h = let p = T_parts _ _ h in (less_number k e.0 p.0, each_above k es p.1)

rise_from : (a : ℕ) (es : List (ℕ × Part)) → T (is_sorted nat_cmp (seen es)) → Each (λ (e : ℕ × Part). a ≤ e.0) es → Rise a es
rise_from a [] s h = tt
rise_from a (e ∷ es) s h = let p = T_parts _ _ s in (h.0, rise_from (e.0 + 1) es p.1 (each_above e.0 es p.0))

each_number : (es : List (ℕ × Part)) → Each (λ (e : ℕ × Part). 0 ≤ e.0) es
each_number [] = tt
each_number (e ∷ es) = (omega arith, each_number es)

pub rise_all : (es : List (ℕ × Part)) → T (is_sorted nat_cmp (seen es)) → Rise 0 es
rise_all es s = rise_from 0 es s (each_number es)

here : (e : ℕ × Part) (es : List (ℕ × Part)) → part_in (e ∷ es) e.0 ≡ e.1
here e es = ap (λ b. (unwrap_or (cond b (Some e.1) (find nat_cmp e.0 (seen es))) no_part)) (same_number e.0 e.0 refl)

there : (e : ℕ × Part) (es : List (ℕ × Part)) (i : ℕ) → (i ≡ e.0 → ⊥) → part_in (e ∷ es) i ≡ part_in es i
there e es i h = ap (λ b. (unwrap_or (cond b (Some e.1) (find nat_cmp i (seen es))) no_part)) (other_number i e.0 h)

below : (a : ℕ) (es : List (ℕ × Part)) (i : ℕ) → Rise a es → i < a → part_in es i ≡ no_part
below a [] i r h = refl
below a (e ∷ es) i r h = let up = r.0 in there e es i (λ q. omega (arith, q, h, up)) ∙ below (e.0 + 1) es i r.1 (omega (arith, h, up))

-- ---- what they give

module _ {X : Type 0} (g : ℕ → Part → List X) (none : (i : ℕ) (p : Part) → p ≡ no_part → g i p ≡ []) where
  all_none : (a : ℕ) (es : List (ℕ × Part)) → Rise a es → ((i : ℕ) → a ≤ i → part_in es i ≡ no_part) → flat_map (λ e. g e.0 e.1) es ≡ []
  all_none a [] r h = refl
  all_none a (e ∷ es) r h =
      let up = r.0 in
      λ j. none e.0 e.1 (sym (here e es) ∙ h e.0 up) j ++ all_none (e.0 + 1) es r.1 (λ i k. sym (there e es i (λ q. omega (arith, q, k))) ∙ h i (omega (arith, k, up))) j

  -- windows that have none may be left out
  pub spread : (n a : ℕ) (es : List (ℕ × Part)) (p : ℕ → Part) → Rise a es → ((i : ℕ) → a ≤ i → part_in es i ≡ p i) → ((i : ℕ) → a + n ≤ i → p i ≡ no_part) → flat_map (λ e. g e.0 e.1) es ≡ flat_map (λ i. g i (p i)) (from a n)
  unfolding from
  spread zero a es p r h k = all_none a es r (λ i l. h i l ∙ k i (omega (arith, l)))
  spread (suc n) a [] p r h k = λ j. sym (none a (p a) (sym (h a (omega arith)))) j ++ spread n (a + 1) [] p tt (λ i l. h i (omega (arith, l))) (λ i l. k i (omega (arith, l))) j
  spread (suc n) a (e ∷ es) p r h k = ⊎_elim
      (λ q.
      let v : e.1 ≡ p a = sym (here e es) ∙ h e.0 r.0 ∙ ap p (sym q) in
      λ j. g (sym q j) (v j) ++ spread n (a + 1) es p (subst (λ b. Rise (b + 1) es) (sym q) r.1) (λ i l. sym (there e es i (λ s. omega (arith, q, s, l))) ∙ h i (omega (arith, l))) (λ i l. k i (omega (arith, l))) j)
      (λ q.
      let up = r.0 in
      let more : Rise (a + 1) (e ∷ es) = (omega (arith, up, q), r.1) in
      let out : p a ≡ no_part = sym (h a (omega arith)) ∙ below (a + 1) (e ∷ es) a more (omega arith) in
      spread n (a + 1) (e ∷ es) p more (λ i l. h i (omega (arith, l))) (λ i l. k i (omega (arith, l))) ∙ sym (λ j. none a (p a) out j ++ flat_map (λ i. g i (p i)) (from (a + 1) n)))
      (cases_eq a e.0)
