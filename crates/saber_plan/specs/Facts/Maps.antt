-- Facts on finite maps: what entries that rise make, and the merge of two maps, key by key. Any proof may cite them.
use Rattle.std.proofs.Common.{◌≡◌, List, [], ◌∷◌, ◌++◌, map, Bool, true, false, cond, Option, Some, None, refl, sym, ◌∙◌, ap, ap₂, T, length, arith}
use Rattle.std.specs.Cmp.{IsTotalOrder}
use Rattle.std.specs.declared.cmp.Ordering.{Ordering}
use Rattle.std.specs.declared.cmp.Ordering.TheVariants.{Less, Equal, Greater}
use Rattle.std.specs.Ordering.{eq_by_cmp, is_eq, is_lt}
use Rattle.std.specs.FinMap.{FinMap, empty, get, insert, entries, from_entries, find, is_sorted, from_sorted, entries-from_sorted, get-from_sorted, len-entries, len-empty, get-empty, get-entries, get-from_entries, get-insert, get_tied, same_map, IsAntisymmetric}
use Rattle.std.specs.FinMap.Entries.{find_tied, below_all}
use Rattle.saber_plan.specs.Merges.{join, joined_value, both}
use Rattle.saber_plan.specs.Facts.Lists.{T_parts}

pub equal_if : (o : Ordering) → is_eq o ≡ true → o ≡ Equal
equal_if Less e = cc
equal_if Equal e = refl
equal_if Greater e = cc

no_length : {A : Type 0} (es : List A) → length es ≡ 0 → es ≡ []
no_length [] e = refl
no_length (x ∷ es) e = absurd (omega arith)

pub entries-empty : {K X : Type 0} (R : K → K → Ordering) → entries (empty {X = X} {R = R}) ≡ []
entries-empty {X = X} R = no_length _ (sym (len-entries (empty {X = X} {R = R})) ∙ len-empty R X)

module _ {K X : Type 0} {R : K → K → Ordering} (o : IsTotalOrder R) (same : IsAntisymmetric R) where
  -- the map of a list whose keys rise has that list
  pub entries-from_rising : (es : List (K × X)) → T (is_sorted R es) → entries (from_entries {R = R} es) ≡ es
  entries-from_rising es s =
      ap entries (same_map o same (from_entries es) (from_sorted es) (λ q. get-from_entries o es q ∙ sym (get-from_sorted R es q s)))
      ∙ entries-from_sorted R es s

module _ {X : Type 0} (f : X → X → X) where
  pub join-none : (o : Option X) → join f o None ≡ o
  join-none None = refl
  join-none (Some x) = refl

  pub join-some : (o : Option X) (y : X) → join f o (Some y) ≡ Some (joined_value f o y)
  join-some None y = refl
  join-some (Some x) y = refl

  join-assoc : ((x y z : X) → f (f x y) z ≡ f x (f y z)) → (o p q : Option X) → join f (join f o p) q ≡ join f o (join f p q)
  join-assoc a None p q = refl
  join-assoc a (Some x) None q = refl
  join-assoc a (Some x) (Some y) None = refl
  join-assoc a (Some x) (Some y) (Some z) = ap Some (a x y z)

module _ {K X : Type 0} {R : K → K → Ordering} (o : IsTotalOrder R) (f : X → X → X) where
  -- keys that tie have the same value
  pub tied : (m : FinMap R X) (k l : K) → eq_by_cmp R k l ≡ true → get m l ≡ get m k
  tied m k l t = get_tied o m k l (equal_if _ t)

  found : (m : FinMap R X) (k : K) (b : Bool) (e : K × X) (rest : Option X) → (b ≡ true → get m e.0 ≡ get m k) →
      cond b (Some (joined_value f (get m e.0) e.1)) (join f (get m k) rest) ≡ join f (get m k) (cond b (Some e.1) rest)
  found m k true e rest t = ap (λ p. Some (joined_value f p e.1)) (t refl) ∙ sym (join-some f (get m k) e.1)
  found m k false e rest t = refl

  find_both : (m : FinMap R X) (k : K) (es : List (K × X)) → find R k (map (λ e. (e.0, joined_value f (get m e.0) e.1)) es ++ entries m) ≡ join f (get m k) (find R k es)
  find_both m k [] = sym (get-entries m k) ∙ sym (join-none f (get m k))
  find_both m k (e ∷ es) = ap (cond (eq_by_cmp R k e.0) (Some (joined_value f (get m e.0) e.1))) (find_both m k es) ∙ found m k (eq_by_cmp R k e.0) e _ (tied m k e.0)

  pub get-both : (m n : FinMap R X) (k : K) → get (both f m n) k ≡ join f (get m k) (get n k)
  get-both m n k = get-from_entries o _ k ∙ find_both m k (entries n) ∙ ap (join f (get m k)) (sym (get-entries n k))

  module _ (same : IsAntisymmetric R) where
    pub both-assoc : ((x y z : X) → f (f x y) z ≡ f x (f y z)) → (a b c : FinMap R X) → both f (both f a b) c ≡ both f a (both f b c)
    both-assoc assoc a b c = same_map o same _ _ (λ k. get-both _ c k
        ∙ ap (λ p. join f p (get c k)) (get-both a b k)
        ∙ join-assoc f assoc (get a k) (get b k) (get c k)
        ∙ ap (join f (get a k)) (sym (get-both b c k)) ∙ sym (get-both a _ k))

    pub both-empty_left : (a : FinMap R X) → both f empty a ≡ a
    both-empty_left a = same_map o same _ _ (λ k. get-both empty a k ∙ ap (λ p. join f p (get a k)) (get-empty R k))

    pub both-empty_right : (a : FinMap R X) → both f a empty ≡ a
    both-empty_right a = same_map o same _ _ (λ k. get-both a empty k ∙ ap (join f (get a k)) (get-empty R k) ∙ join-none f (get a k))

    none_before : (p q : Option X) → join f p q ≡ None → p ≡ None
    none_before None q e = refl
    none_before (Some x) None e = e
    none_before (Some x) (Some y) e = cc

    -- a merge that is empty had nothing on its left
    pub both_empty_left : (a b : FinMap R X) → both f a b ≡ empty → a ≡ empty
    both_empty_left a b e = same_map o same _ _ (λ k.
        none_before (get a k) (get b k) (sym (get-both a b k) ∙ ap (λ m. get m k) e ∙ get-empty R k) ∙ sym (get-empty R k))

    none_after : (p q : Option X) → join f p q ≡ None → q ≡ None
    none_after None q e = e
    none_after (Some x) None e = refl
    none_after (Some x) (Some y) e = cc

    -- nor on its right
    pub both_empty_right : (a b : FinMap R X) → both f a b ≡ empty → b ≡ empty
    both_empty_right a b e = same_map o same _ _ (λ k.
        none_after (get a k) (get b k) (sym (get-both a b k) ∙ ap (λ m. get m k) e ∙ get-empty R k) ∙ sym (get-empty R k))

-- ---- one entry after another

less_apart : (o : Ordering) → T (is_lt o) → is_eq o ≡ false
less_apart Less p = refl
less_apart Equal p = absurd p
less_apart Greater p = absurd p

module _ {K X : Type 0} (R : K → K → Ordering) where
  pub not_below : (k : K) (es : List (K × X)) → T (below_all R k es) → find R k es ≡ None
  not_below k [] h = refl
  not_below k (e ∷ es) h = let p = T_parts _ _ h in ap (λ b. cond b (Some e.1) (find R k es)) (less_apart _ p.0) ∙ not_below k es p.1

  pub first_alone : (e : K × X) (es : List (K × X)) → T (is_sorted R (e ∷ es)) → find R e.0 es ≡ None
  first_alone e es h = not_below e.0 es (T_parts _ _ h).0

  pub rest_rises : (e : K × X) (es : List (K × X)) → T (is_sorted R (e ∷ es)) → T (is_sorted R es)
  rest_rises e es h = (T_parts _ _ h).1

module _ {K X : Type 0} {R : K → K → Ordering} (o : IsTotalOrder R) (same : IsAntisymmetric R) (f : X → X → X) where
  take_case : (m : FinMap R X) (k q : K) (v : X) (b : Bool) (rest : Option X) → (b ≡ true → get m q ≡ get m k) → (b ≡ true → rest ≡ None)
      → join f (cond b (Some (joined_value f (get m k) v)) (get m q)) rest ≡ join f (get m q) (cond b (Some v) rest)
  take_case m k q v true rest tied none =
      ap (join f (Some (joined_value f (get m k) v))) (none refl) ∙ ap (λ p. Some (joined_value f p v)) (sym (tied refl)) ∙ sym (join-some f (get m q) v)
  take_case m k q v false rest tied none = refl

  -- a first entry, whose key doesn't come again, is taken in before the rest
  pub take_one : (m : FinMap R X) (k : K) (v : X) (es : List (K × X)) → find R k es ≡ None
      → both f (insert m k (joined_value f (get m k) v)) (from_entries es) ≡ both f m (from_entries ((k, v) ∷ es))
  take_one m k v es none = same_map o same _ _ (λ q.
      get-both o f (insert m k (joined_value f (get m k) v)) (from_entries es) q
      ∙ ap₂ (join f) (get-insert o m k (joined_value f (get m k) v) q) (get-from_entries o es q)
      ∙ take_case m k q v (eq_by_cmp R q k) (find R q es) (λ e. sym (get_tied o m q k (equal_if _ e))) (λ e. sym (find_tied R o q k (equal_if _ e) es) ∙ none)
      ∙ sym (get-both o f m (from_entries ((k, v) ∷ es)) q ∙ ap (join f (get m q)) (get-from_entries o ((k, v) ∷ es) q)))
