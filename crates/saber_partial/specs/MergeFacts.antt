-- Facts on which parts can be merged, where three follow one another. Any proof may cite them.
use Rattle.std.proofs.Common.{◌≡◌, ◌+◌, ◌^◌, ◌≤◌, List, [], ◌∷◌, length, drop, get_or, Bool, cond, ℤ, Option, Some, None, refl, sym, ◌∙◌, ap, subst, subst₂, arith}
use Rattle.std.specs.FinMap.{get, get-empty}
use Rattle.saber_plan.specs.declared.plans.Fold.{Fold}
use Rattle.saber_plan.specs.Answers.{key_cmp, step}
use Rattle.saber_plan.specs.Merges.{join}
use Rattle.saber_plan.specs.Facts.Maps.{get-both}
use Rattle.saber_plan.specs.Facts.Parts.{total, same_self}
use Rattle.saber_plan.specs.Parts.{Part, Number, Numbers, no_part, merge, same_fold, join_values, join_numbers}
use Rattle.saber_partial.specs.Tallies.{folds_of, Alike, CanJoin, CanMerge}

pub not_both : {A : Type 0} {o : Option A} {y : A} → o ≡ None → o ≡ Some y → ⊥
not_both e h = cc

-- ---- aggregates that go on alike

-- those of a join are as those of both
pub folds-join : (xs ys : List Number) → folds_of xs ≡ folds_of ys → folds_of (join_values xs ys) ≡ folds_of xs
folds-join [] ys e = refl
folds-join (x ∷ xs) [] e = absurd (let l = ap length e in omega (arith, l))
folds-join (x ∷ xs) (y ∷ ys) e =
    let joined = λ (b : Bool). folds_of (cond b (record { fold = x.fold; value = step x.fold x.value y.value } ∷ join_values xs ys) []) in
    subst (λ g. joined (same_fold x.fold g) ≡ x.fold ∷ folds_of xs) (ap (λ l. get_or l 0 x.fold) e)
    (ap joined (same_self x.fold) ∙ ap (λ l. x.fold ∷ l) (folds-join xs ys (ap (drop 1) e)))

abbrev folds : Numbers → List Fold
folds a = folds_of a.values

folds_joined : (x y : Numbers) → folds x ≡ folds y → folds (join_numbers x y) ≡ folds x
folds_joined x y e = folds-join x.values y.values e

folds_alone : (x y : Numbers) → CanJoin x y → folds x ≡ folds y
folds_alone x y h = h.folds

folds_alike : (j k : List ℤ) (x y : Numbers) → Alike j k x y → folds x ≡ folds y
folds_alike j k x y h = h.folds

to_join : (x y : Numbers) → x.count + y.count ≤ 2 ^ 40 → folds x ≡ folds y → CanJoin x y
to_join x y n e = record { counts = n; folds = e }

to_alike : (j k : List ℤ) (x y : Numbers) → length j ≡ length k → folds x ≡ folds y → Alike j k x y
to_alike j k x y n e = record { keys = n; folds = e }

-- ---- what two parts have under a key, and under two keys

abbrev Joins : Option Numbers → Option Numbers → Type 0
Joins None p = Unit {0}
Joins (Some x) None = Unit {0}
Joins (Some x) (Some y) = CanJoin x y

abbrev AreLike : List ℤ → List ℤ → Option Numbers → Option Numbers → Type 0
AreLike j k None p = Unit {0}
AreLike j k (Some x) None = Unit {0}
AreLike j k (Some x) (Some y) = Alike j k x y

joins_of : (o p : Option Numbers) → ((x y : Numbers) → o ≡ Some x → p ≡ Some y → CanJoin x y) → Joins o p
joins_of None p f = tt
joins_of (Some x) None f = tt
joins_of (Some x) (Some y) f = f x y refl refl

like_of : (j k : List ℤ) (o p : Option Numbers) → ((x y : Numbers) → o ≡ Some x → p ≡ Some y → Alike j k x y) → AreLike j k o p
like_of j k None p f = tt
like_of j k (Some x) None f = tt
like_of j k (Some x) (Some y) f = f x y refl refl

joins_at : (m n : Part) → CanMerge m n → (k : List ℤ) → Joins (get m k) (get n k)
joins_at m n h k = joins_of (get m k) (get n k) (λ x y e f. h.at k x y e f)

like_at : (m n : Part) → CanMerge m n → (j k : List ℤ) → AreLike j k (get m j) (get n k)
like_at m n h j k = like_of j k (get m j) (get n k) (λ x y e f. h.alike j k x y e f)

can_by : (m n : Part) → ((k : List ℤ) → Joins (get m k) (get n k)) → ((j k : List ℤ) → AreLike j k (get m j) (get n k)) → CanMerge m n
can_by m n f g = record { at = λ k x y d e. subst₂ Joins d e (f k); alike = λ j k x y d e. subst₂ (AreLike j k) d e (g j k) }

abbrev with : Option Numbers → Option Numbers → Option Numbers
with o p = join join_numbers o p

given : (a b : Part) (k : List ℤ) → get (merge a b) k ≡ with (get a k) (get b k)
given a b k = get-both total join_numbers a b k

-- ---- the first two are merged: so can be the last two

front_folds : (x y w : Numbers) → CanJoin x y → CanJoin (join_numbers x y) w → folds y ≡ folds w
front_folds x y w g h = let e = g.folds in sym e ∙ sym (folds_joined x y e) ∙ folds_alone (join_numbers x y) w h

joins_behind : (o p q : Option Numbers) → Joins o p → Joins (with o p) q → Joins p q
joins_behind None p q g h = h
joins_behind (Some x) None q g h = tt
joins_behind (Some x) (Some y) None g h = tt
joins_behind (Some x) (Some y) (Some w) g h = let few : (x.count + y.count) + w.count ≤ 2 ^ 40 = h.counts in to_join y w (omega (arith, few)) (front_folds x y w g h)

joins_ahead : (o p q : Option Numbers) → Joins o p → Joins (with o p) q → Joins o (with p q)
joins_ahead None p q g h = tt
joins_ahead (Some x) None None g h = tt
joins_ahead (Some x) None (Some w) g h = h
joins_ahead (Some x) (Some y) None g h = g
joins_ahead (Some x) (Some y) (Some w) g h =
    let few : (x.count + y.count) + w.count ≤ 2 ^ 40 = h.counts in
    to_join x (join_numbers y w) (omega (arith, few)) (g.folds ∙ sym (folds_joined y w (front_folds x y w g h)))

like_behind : (j k : List ℤ) (o p q : Option Numbers) → Joins o p → AreLike j k (with o p) q → AreLike j k p q
like_behind j k None p q g h = h
like_behind j k (Some x) None q g h = tt
like_behind j k (Some x) (Some y) None g h = tt
like_behind j k (Some x) (Some y) (Some w) g h = let e = g.folds in to_alike j k y w h.keys (sym e ∙ sym (folds_joined x y e) ∙ folds_alike j k (join_numbers x y) w h)

like_first : (j k : List ℤ) (o p q : Option Numbers) → Joins o p → AreLike j k (with o p) q → AreLike j k o q
like_first j k None p q g h = tt
like_first j k (Some x) None q g h = h
like_first j k (Some x) (Some y) None g h = tt
like_first j k (Some x) (Some y) (Some w) g h = to_alike j k x w h.keys (sym (folds_joined x y (g.folds)) ∙ folds_alike j k (join_numbers x y) w h)

like_ahead : (j k : List ℤ) (o p q : Option Numbers) → AreLike j k o p → AreLike j k o q → AreLike j k o (with p q)
like_ahead j k None p q g h = tt
like_ahead j k (Some x) None q g h = h
like_ahead j k (Some x) (Some y) None g h = g
like_ahead j k (Some x) (Some y) (Some w) g h =
    let e = folds_alike j k x y g in
    to_alike j k x (join_numbers y w) g.keys (e ∙ sym (folds_joined y w (sym e ∙ folds_alike j k x w h)))

pub can_behind : (a b c : Part) → CanMerge a b → CanMerge (merge a b) c → CanMerge b c
can_behind a b c g h = can_by b c
    (λ k. joins_behind (get a k) (get b k) (get c k) (joins_at a b g k) (subst (λ o. Joins o (get c k)) (given a b k) (joins_at (merge a b) c h k)))
    (λ j k. like_behind j k (get a j) (get b j) (get c k) (joins_at a b g j) (subst (λ o. AreLike j k o (get c k)) (given a b j) (like_at (merge a b) c h j k)))

pub can_ahead : (a b c : Part) → CanMerge a b → CanMerge (merge a b) c → CanMerge a (merge b c)
can_ahead a b c g h = can_by a (merge b c)
    (λ k. subst (Joins (get a k)) (sym (given b c k))
    (joins_ahead (get a k) (get b k) (get c k) (joins_at a b g k) (subst (λ o. Joins o (get c k)) (given a b k) (joins_at (merge a b) c h k))))
    (λ j k. subst (AreLike j k (get a j)) (sym (given b c k))
    (like_ahead j k (get a j) (get b k) (get c k) (like_at a b g j k)
    (like_first j k (get a j) (get b j) (get c k) (joins_at a b g j) (subst (λ o. AreLike j k o (get c k)) (given a b j) (like_at (merge a b) c h j k)))))

joins_over : (o p q : Option Numbers) → Joins o p → Joins (with o p) q → Joins o q
joins_over None p q g h = tt
joins_over (Some x) None q g h = h
joins_over (Some x) (Some y) None g h = tt
joins_over (Some x) (Some y) (Some w) g h =
    let few : (x.count + y.count) + w.count ≤ 2 ^ 40 = h.counts in
    to_join x w (omega (arith, few)) (g.folds ∙ front_folds x y w g h)

pub can_over : (a b c : Part) → CanMerge a b → CanMerge (merge a b) c → CanMerge a c
can_over a b c g h = can_by a c
    (λ k. joins_over (get a k) (get b k) (get c k) (joins_at a b g k) (subst (λ o. Joins o (get c k)) (given a b k) (joins_at (merge a b) c h k)))
    (λ j k. like_first j k (get a j) (get b j) (get c k) (joins_at a b g j) (subst (λ o. AreLike j k o (get c k)) (given a b j) (like_at (merge a b) c h j k)))

-- ---- the last two are merged: so can be the first two

joins_first : (o p q : Option Numbers) → Joins p q → Joins o (with p q) → Joins o p
joins_first None p q g h = tt
joins_first (Some x) None q g h = tt
joins_first (Some x) (Some y) None g h = h
joins_first (Some x) (Some y) (Some w) g h =
    let few : x.count + (y.count + w.count) ≤ 2 ^ 40 = h.counts in
    to_join x y (omega (arith, few)) (folds_alone x (join_numbers y w) h ∙ folds_joined y w (folds_alone y w g))

joins_back : (o p q : Option Numbers) → Joins p q → Joins o (with p q) → Joins (with o p) q
joins_back None p q g h = g
joins_back (Some x) None q g h = h
joins_back (Some x) (Some y) None g h = tt
joins_back (Some x) (Some y) (Some w) g h =
    let few : x.count + (y.count + w.count) ≤ 2 ^ 40 = h.counts in
    let same = folds_alone y w g in
    let e : folds x ≡ folds y = folds_alone x (join_numbers y w) h ∙ folds_joined y w same in
    to_join (join_numbers x y) w (omega (arith, few)) (folds_joined x y e ∙ e ∙ same)

like_before : (j k : List ℤ) (o p q : Option Numbers) → Joins p q → AreLike j k o (with p q) → AreLike j k o p
like_before j k None p q g h = tt
like_before j k (Some x) None q g h = tt
like_before j k (Some x) (Some y) None g h = h
like_before j k (Some x) (Some y) (Some w) g h = to_alike j k x y h.keys (folds_alike j k x (join_numbers y w) h ∙ folds_joined y w (folds_alone y w g))

like_last : (j k : List ℤ) (o p q : Option Numbers) → Joins p q → AreLike j k o (with p q) → AreLike j k o q
like_last j k None p q g h = tt
like_last j k (Some x) None q g h = h
like_last j k (Some x) (Some y) None g h = tt
like_last j k (Some x) (Some y) (Some w) g h = let e = folds_alone y w g in to_alike j k x w h.keys (folds_alike j k x (join_numbers y w) h ∙ folds_joined y w e ∙ e)

like_back : (j k : List ℤ) (o p q : Option Numbers) → Joins o p → AreLike j k o q → AreLike j k p q → AreLike j k (with o p) q
like_back j k None p q c g h = h
like_back j k (Some x) None q c g h = g
like_back j k (Some x) (Some y) None c g h = tt
like_back j k (Some x) (Some y) (Some w) c g h = to_alike j k (join_numbers x y) w g.keys (folds_joined x y (folds_alone x y c) ∙ folds_alike j k x w g)

pub can_first : (a b c : Part) → CanMerge b c → CanMerge a (merge b c) → CanMerge a b
can_first a b c g h = can_by a b
    (λ k. joins_first (get a k) (get b k) (get c k) (joins_at b c g k) (subst (Joins (get a k)) (given b c k) (joins_at a (merge b c) h k)))
    (λ j k. like_before j k (get a j) (get b k) (get c k) (joins_at b c g k) (subst (AreLike j k (get a j)) (given b c k) (like_at a (merge b c) h j k)))

pub can_back : (a b c : Part) → CanMerge b c → CanMerge a (merge b c) → CanMerge (merge a b) c
can_back a b c g h = can_by (merge a b) c
    (λ k. subst (λ o. Joins o (get c k)) (sym (given a b k))
    (joins_back (get a k) (get b k) (get c k) (joins_at b c g k) (subst (Joins (get a k)) (given b c k) (joins_at a (merge b c) h k))))
    (λ j k. subst (λ o. AreLike j k o (get c k)) (sym (given a b j))
    (like_back j k (get a j) (get b j) (get c k) (joins_at a b (can_first a b c g h) j)
    (like_last j k (get a j) (get b k) (get c k) (joins_at b c g k) (subst (AreLike j k (get a j)) (given b c k) (like_at a (merge b c) h j k)))
    (like_at b c g j k)))

-- ---- no groups

pub can_none : (a : Part) → CanMerge a no_part
can_none a = record { at = λ k x y e f. absurd (not_both (get-empty key_cmp k) f); alike = λ j k x y e f. absurd (not_both (get-empty key_cmp k) f) }

pub none_can : (a : Part) → CanMerge no_part a
none_can a = record { at = λ k x y e f. absurd (not_both (get-empty key_cmp k) e); alike = λ j k x y e f. absurd (not_both (get-empty key_cmp j) e) }
