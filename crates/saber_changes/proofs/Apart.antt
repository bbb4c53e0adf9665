-- What cancels none, where the lines of both windows rise.
use Rattle.std.proofs.Common.{◌≡◌, ℕ, suc, ◌+◌, List, [], ◌∷◌, ◌++◌, drop, get_or, length, Bool, true, false, ◌||◌, cond, ℤ, refl, sym, ◌∙◌, ap, subst, arith}
use Rattle.std.proofs.lemmas.Bool.{both_ways}
use Rattle.std.specs.Cmp.{tied_itself, alike_right}
use Rattle.std.specs.List.{list_any}
use Rattle.std.specs.Ordering.{is_eq, is_lt, ordering_reverse}
use Rattle.std.specs.declared.cmp.Ordering.{Ordering}
use Rattle.std.specs.declared.cmp.Ordering.TheVariants.{Less, Equal, Greater}
use Rattle.saber_plan.specs.Answers.{Answers, key_cmp, same_line, without, uncancelled_answers}
use Rattle.saber_plan.specs.Facts.Parts.{total, exact}
use Rattle.saber_changes.specs.Rising.{is_below, NoneBelow, Rises, Reaches, begins_with}
use Rattle.saber_changes.proofs.Cancelling.{same, itself}

-- ---- the order of lines

-- a line is not below itself
not_itself : (k : List ℤ) → is_below k k ≡ false
not_itself k = ap is_lt (tied_itself total k)

less_is : (o : Ordering) → is_lt o ≡ true → o ≡ Less
less_is Less e = refl
less_is Equal e = cc
less_is Greater e = cc

-- what isn't below a line that isn't below another isn't below that
not_below : (k l m : List ℤ) → is_below l k ≡ false → is_below m l ≡ false → is_below m k ≡ false
not_below k l m a b = case_of (is_below m k) refl
  where
    middle : (o : Ordering) → key_cmp m k ≡ Less → key_cmp k l ≡ o → ⊥
    middle Less low f = both_ways _ (sym (ap is_lt (total.trans m k l low f)) ∙ b) refl
    middle Equal low f = both_ways _ (sym (ap is_lt (sym (alike_right total k l m f) ∙ low)) ∙ b) refl
    middle Greater low f = both_ways _ (sym (ap is_lt (total.antisymm l k ∙ ap ordering_reverse f)) ∙ a) refl

    case_of : (t : Bool) → is_below m k ≡ t → is_below m k ≡ false
    case_of false e = e
    case_of true e = absurd (middle (key_cmp k l) (less_is _ e) refl)

none_below_on : (k l : List ℤ) (ls : Answers) → is_below l k ≡ false → NoneBelow l ls → NoneBelow k ls
none_below_on k l [] a h = h
none_below_on k l (m ∷ ms) a h = (not_below k l m a h.0, none_below_on k l ms a h.1)

-- ---- lines that cancel none

-- a line that is below all of these cancels none of them
differs : (k l o : List ℤ) → is_below o k ≡ true → is_below l k ≡ false → (b : Bool) → same_line l o ≡ b → same_line l o ≡ false
differs k l o low h false e = e
differs k l o low h true e = absurd (both_ways _ (sym low ∙ subst (λ x. is_below x k ≡ false) (same l o e) h) refl)

pub below_cancels_none : (k o : List ℤ) (ls os : Answers) → is_below o k ≡ true → NoneBelow k ls → uncancelled_answers ls (o ∷ os) ≡ uncancelled_answers ls os
below_cancels_none k o [] os low h = refl
below_cancels_none k o (l ∷ ls) os low h =
    let other = differs k l o low h.0 (same_line l o) refl in
    (λ i. cond (other i || list_any (same_line l) os) (uncancelled_answers ls (cond (other i) os (o ∷ without l os))) (l ∷ uncancelled_answers ls (o ∷ os)))
    ∙ (λ i. cond (list_any (same_line l) os) (below_cancels_none k o ls (without l os) low h.1 i) (l ∷ below_cancels_none k o ls os low h.1 i))

-- the first of the others cancels the line
first_cancels : (k : List ℤ) (ks os : Answers) → begins_with k os ≡ true → uncancelled_answers (k ∷ ks) os ≡ uncancelled_answers ks (drop 1 os)
first_cancels k ks [] e = cc
first_cancels k ks (o ∷ os) e = λ i. cond (e i || list_any (same_line k) os) (uncancelled_answers ks (cond (e i) os (o ∷ without k os))) (k ∷ uncancelled_answers ks (o ∷ os))

above : (k o : List ℤ) → is_below o k ≡ false → same_line k o ≡ false → is_below k o ≡ true
above k o a b = from_order (key_cmp k o) refl
  where
    from_order : (r : Ordering) → key_cmp k o ≡ r → is_below k o ≡ true
    from_order Less e = ap is_lt e
    from_order Equal e = absurd (both_ways _ (sym (ap is_eq e) ∙ b) refl)
    from_order Greater e = absurd (both_ways _ (sym (ap is_lt (total.antisymm o k ∙ ap ordering_reverse e)) ∙ a) refl)

none_same : (k o : List ℤ) (ls : Answers) → is_below k o ≡ true → NoneBelow o ls → list_any (same_line k) ls ≡ false
none_same k o [] low h = refl
none_same k o (l ∷ ls) low h =
    (λ i. differs_back (same_line k l) refl i || list_any (same_line k) ls) ∙ none_same k o ls low h.1
  where
    differs_back : (b : Bool) → same_line k l ≡ b → same_line k l ≡ false
    differs_back false e = e
    differs_back true e = absurd (both_ways _ (sym low ∙ subst (λ x. is_below x o ≡ false) (sym (same k l e)) h.0) refl)

-- or none of the others does
none_cancels : (k : List ℤ) (ks os : Answers) → Reaches k os → Rises os → begins_with k os ≡ false → uncancelled_answers (k ∷ ks) os ≡ k ∷ uncancelled_answers ks os
none_cancels k ks [] h r e = refl
none_cancels k ks (o ∷ os) h r e =
    let none : list_any (same_line k) (o ∷ os) ≡ false = (λ i. e i || list_any (same_line k) os) ∙ none_same k o os (above k o h e) r.0 in
    λ i. cond (none i) (uncancelled_answers ks (without k (o ∷ os))) (k ∷ uncancelled_answers ks (o ∷ os))

-- ---- by one look at the next of the others

pub itself_and : (k : List ℤ) (ks : Answers) → NoneBelow k ks → NoneBelow k (k ∷ ks)
itself_and k ks h = (not_itself k, h)

pub equal_cancels : (k o : List ℤ) (ks os : Answers) → key_cmp o k ≡ Equal → uncancelled_answers (k ∷ ks) (o ∷ os) ≡ uncancelled_answers ks os
equal_cancels k o ks os e = first_cancels k ks (o ∷ os) (subst (λ l. same_line k l ≡ true) (sym (exact o k e)) (itself k))

pub greater_cancels_none : (k o : List ℤ) (ks all os : Answers) → all ≡ o ∷ os → key_cmp o k ≡ Greater → Rises all → uncancelled_answers (k ∷ ks) all ≡ k ∷ uncancelled_answers ks all
greater_cancels_none k o ks all os n e r =
    none_cancels k ks all (subst (Reaches k) (sym n) (ap is_lt e)) r (ap (begins_with k) n ∙ ap is_eq (total.antisymm k o ∙ ap ordering_reverse e))

pub none_left : (k : List ℤ) (ks os : Answers) → os ≡ [] → uncancelled_answers (k ∷ ks) os ≡ k ∷ uncancelled_answers ks os
none_left k ks os e = ap (uncancelled_answers (k ∷ ks)) e ∙ ap (λ l. k ∷ uncancelled_answers ks l) (sym e)

-- ---- one line after another

last_not_below : (m l : List ℤ) (ms : Answers) → NoneBelow m (ms ++ l ∷ []) → is_below l m ≡ false
last_not_below m l [] h = h.0
last_not_below m l (k ∷ ms) h = last_not_below m l ms h.1

none_below_with : (k l : List ℤ) (ls : Answers) → NoneBelow k ls → is_below l k ≡ false → NoneBelow k (ls ++ l ∷ [])
none_below_with k l [] h e = (e, tt)
none_below_with k l (m ∷ ms) h e = (h.0, none_below_with k l ms h.1 e)

-- one line more behind others that rise, where it isn't below the last of them
pub more_rise : (ls : Answers) (l : List ℤ) → Rises ls → ((i : ℕ) → i + 1 ≡ length ls → is_below l (get_or ls i l) ≡ false) → Rises (ls ++ l ∷ [])
more_rise [] l r h = (tt, tt)
more_rise (k ∷ []) l r h = ((h 0 refl, tt), (tt, tt))
more_rise (k ∷ m ∷ ms) l r h =
    let rest = more_rise (m ∷ ms) l r.1 (λ i e. h (suc i) (omega (arith, e))) in
    (none_below_with k l (m ∷ ms) r.0 (not_below k m l r.0.0 (last_not_below m l ms rest.0)), rest)
