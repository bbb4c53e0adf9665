-- Parts of one query can be merged.
use Rattle.std.proofs.Common.{◌≡◌, ℕ, ◌+◌, ◌-◌, ◌^◌, ◌≤◌, List, [], ◌∷◌, length, Bool, true, false, cond, Option, Some, None, ℤ, unwrap_or, refl, sym, ◌∙◌, ap, subst, arith}
use Rattle.std.proofs.lemmas.List.{length-map}
use Rattle.std.specs.Ordering.{eq_by_cmp}
use Rattle.std.specs.FinMap.{get, get-empty}
use Rattle.saber_plan.specs.declared.plans.Aggregate.{Aggregate}
use Rattle.saber_plan.specs.declared.plans.Fold.{Fold}
use Rattle.saber_plan.specs.Trees.{Tree}
use Rattle.saber_plan.specs.Answers.{key_cmp, key, rows_of_key}
use Rattle.saber_plan.specs.Parts.{Part, no_part, Numbers, numbers, join_numbers, merge, group_part}
use Rattle.saber_partial.specs.Gathering.{plan_folds}
use Rattle.saber_partial.specs.Tallies.{folds_of, Alike, CanJoin, CanMerge}
use Rattle.saber_partial.specs.PartLaws.{OfAggregates, OfRows}
use Rattle.saber_plan.specs.Merges.{join}
use Rattle.saber_plan.specs.Facts.Maps.{equal_if, get-both}
use Rattle.saber_plan.specs.Facts.Parts.{exact, total, get-group_part, numbers_if}
use Rattle.saber_plan.specs.Facts.Lists.{few_pass}
use Rattle.saber_partial.specs.MergeFacts.{not_both, folds-join}
use Rattle.saber_partial.proofs.Folded.{folds-row}

can_join : (fs : List Fold) (a b : Numbers) → folds_of a.values ≡ fs → folds_of b.values ≡ fs → a.count + b.count ≤ 2 ^ 40 → CanJoin a b
can_join fs a b g h n = record { counts = n; folds = g ∙ sym h }

are_alike : (fs : List Fold) (j k : List ℤ) (a b : Numbers) → length j ≡ length k → folds_of a.values ≡ fs → folds_of b.values ≡ fs → Alike j k a b
are_alike fs j k a b n g h = record { keys = n; folds = g ∙ sym h }

-- ---- groups

numbers_there : (gs : List Aggregate) (us : List (List ℤ)) (a : Numbers) → numbers_if gs us ≡ Some a → numbers gs us ≡ a
numbers_there gs [] a e = cc
numbers_there gs (zs ∷ us) a e = ap (λ o. unwrap_or o a) e

-- where a key has numbers, it is that of a row
key_case : (ks : List ℕ) (gs : List Aggregate) (k zs : List ℤ) (rows : List (List ℤ)) (a : Numbers) (b : Bool) → eq_by_cmp key_cmp k (key ks zs) ≡ b → (numbers_if gs rows ≡ Some a → length k ≡ length ks)
    → numbers_if gs (cond b (zs ∷ rows) rows) ≡ Some a → length k ≡ length ks
key_case ks gs k zs rows a true t h e = ap length (exact k (key ks zs) (equal_if _ t)) ∙ length-map ks _
key_case ks gs k zs rows a false t h e = h e

key_long : (ks : List ℕ) (gs : List Aggregate) (k : List ℤ) (us : List (List ℤ)) (a : Numbers) → numbers_if gs (rows_of_key ks k us) ≡ Some a → length k ≡ length ks
key_long ks gs k [] a e = cc
key_long ks gs k (zs ∷ us) a e = key_case ks gs k zs (rows_of_key ks k us) a (eq_by_cmp key_cmp k (key ks zs)) refl (key_long ks gs k us a) e

pub groups_are_of_rows : (q : Tree) (us : List (List ℤ)) → OfRows q (length us) (group_part q us)
groups_are_of_rows q us = record {
  at = λ k a e.
      let low = few_pass (λ (zs : List ℤ). eq_by_cmp key_cmp k (key q.keys zs)) us in
      let mine = numbers_there q.aggregates (rows_of_key q.keys k us) a (sym (get-group_part q us k) ∙ e) in
      subst (λ (x : Numbers). (x.count ≤ length us) × OfAggregates q.aggregates x) mine (low, folds-row q.aggregates (rows_of_key q.keys k us));
  keys = λ k a e. key_long q.keys q.aggregates k us a (sym (get-group_part q us k) ∙ e);
}

pub none_of_rows : (q : Tree) → OfRows q 0 no_part
none_of_rows q = record { at = λ k a e. absurd (not_both (get-empty key_cmp k) e); keys = λ k a e. absurd (not_both (get-empty key_cmp k) e) }

-- ---- merges

pub small_merge : (q : Tree) (m n : ℕ) (a b : Part) → OfRows q m a → OfRows q n b → m + n ≤ 2 ^ 40 → CanMerge a b
small_merge q m n a b g h l = record {
  at = λ k x y e f.
      let one = g.at k x e in
      let two = h.at k y f in
      let low = one.0 in
      let high = two.0 in
      can_join (plan_folds q.aggregates) x y one.1 two.1 (omega (arith, l, low, high));
  alike = λ j k x y e f. are_alike (plan_folds q.aggregates) j k x y (g.keys j x e ∙ sym (h.keys k y f)) (g.at j x e).1 (h.at k y f).1;
}

joined_fit : (gs : List Aggregate) (x y : Numbers) → OfAggregates gs x → OfAggregates gs y → OfAggregates gs (join_numbers x y)
joined_fit gs x y g h = folds-join x.values y.values (g ∙ sym h) ∙ g

abbrev IsOf : Tree → ℕ → Numbers → Type 0
IsOf q n x = (x.count ≤ n) × OfAggregates q.aggregates x

some_of : (x y : Numbers) → Some x ≡ Some y → x ≡ y
some_of x y e = ap (λ o. unwrap_or o x) e

join_case : (q : Tree) (m n : ℕ) (o p : Option Numbers) (z : Numbers) → ((x : Numbers) → o ≡ Some x → IsOf q m x) → ((y : Numbers) → p ≡ Some y → IsOf q n y) → join join_numbers o p ≡ Some z → IsOf q (m + n) z
join_case q m n None p z g h e = let w = h z e in let high = w.0 in (omega (arith, high), w.1)
join_case q m n (Some x) None z g h e = let w = g z e in let low = w.0 in (omega (arith, low), w.1)
join_case q m n (Some x) (Some y) z g h e =
    let one = g x refl in
    let two = h y refl in
    let low = one.0 in
    let high = two.0 in
    subst (IsOf q (m + n)) (some_of (join_numbers x y) z e) (omega (arith, low, high), joined_fit q.aggregates x y one.1 two.1)

-- what a merge has under a key, one of the two has
of_either : (A : Type 0) (o p : Option Numbers) (z : Numbers) → ((x : Numbers) → o ≡ Some x → A) → ((y : Numbers) → p ≡ Some y → A) → join join_numbers o p ≡ Some z → A
of_either A None p z g h e = h z e
of_either A (Some x) p z g h e = g x refl

pub small_stay : (q : Tree) (m n : ℕ) (a b : Part) → OfRows q m a → OfRows q n b → OfRows q (m + n) (merge a b)
small_stay q m n a b g h = record {
  at = λ k z e. join_case q m n (get a k) (get b k) z (g.at k) (h.at k) (sym (get-both total join_numbers a b k) ∙ e);
  keys = λ k z e. of_either (length k ≡ length q.keys) (get a k) (get b k) z (g.keys k) (h.keys k) (sym (get-both total join_numbers a b k) ∙ e);
}

-- ---- rows of windows

pub more_rows : (q : Tree) (m n : ℕ) (a : Part) → m ≤ n → OfRows q m a → OfRows q n a
more_rows q m n a l g = record { at = λ k x e. let w = g.at k x e in let low = w.0 in (omega (arith, l, low), w.1); keys = g.keys }
