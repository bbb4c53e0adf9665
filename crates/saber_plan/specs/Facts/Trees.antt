-- Facts on a tree map's entries, seen as a finite map. Any proof may cite them.
use Rattle.std.proofs.Common.{◌≡◌, List, [], ◌∷◌, map, Bool, true, false, cond, T, Option, Some, option_map, refl, sym, ◌∙◌, ap, subst}
use Rattle.std.specs.Cmp.{IsTotalOrder, alike_right, eq_by_cmp_equiv}
use Rattle.std.specs.List.{AllByRecursion}
use Rattle.std.specs.List.Sorted.{IsStrictlySortedBy}
use Rattle.std.proofs.lemmas.Bool.{both_ways}
use Rattle.saber_plan.specs.Facts.Lists.{and_T}
use Rattle.saber_plan.specs.Facts.Maps.{equal_if}
use Rattle.std.specs.Ordering.{eq_by_cmp, is_eq, is_lt, match_ordering}
use Rattle.std.specs.declared.cmp.Ordering.{Ordering}
use Rattle.std.specs.declared.cmp.Ordering.TheVariants.{Less, Equal, Greater}
use Rattle.std.specs.BTreeMap.{insert_entry, is_at}
use Rattle.std.specs.Map.{lookup, set_value, keys_of}
use Rattle.std.specs.FinMap.{get, insert, from_entries, find, put, is_sorted, same_map, get-from_entries, get-insert, IsAntisymmetric}
use Rattle.std.specs.FinMap.Entries.{find-put, by_order, below_all}

module _ {K V L X : Type 0} (R : L → L → Ordering) (key : K → L) (value : V → X) where
  -- the entries as the map has them
  abbrev pub seen : List (K × V) → List (L × X)
  seen es = map (λ e. (key e.0, value e.1)) es

  put-seen : (k : K) (v : V) (es : List (K × V)) → seen (insert_entry (λ a b. R (key a) (key b)) es k v) ≡ put R (key k) (value v) (seen es)
  put-seen k v [] = refl
  put-seen k v (e ∷ es) =
      elim (R (key k) (key e.0)) as (λ r. seen (match_ordering r ((k, v) ∷ e ∷ es) ((e.0, v) ∷ es) (e ∷ insert_entry (λ a b. R (key a) (key b)) es k v))
      ≡ by_order r ((key k, value v) ∷ seen (e ∷ es)) ((key e.0, value v) ∷ seen es) ((key e.0, value e.1) ∷ put R (key k) (value v) (seen es))) [
        | Less ↦ refl
        | Equal ↦ refl
        | Greater ↦ ap (λ l. (key e.0, value e.1) ∷ l) (put-seen k v es)
      ]

  find-seen : (k : L) (es : List (K × V)) → option_map value (lookup (is_at (λ a. R k (key a))) es) ≡ find R k (seen es)
  find-seen k [] = refl
  find-seen k (e ∷ es) =
      elim (is_eq (R k (key e.0))) as (λ b. option_map value (cond b (Some e.1) (lookup (is_at (λ a. R k (key a))) es))
      ≡ cond b (Some (value e.1)) (find R k (seen es))) [
        | true ↦ refl
        | false ↦ find-seen k es
      ]

  sorted_below : (k : K) (es : List (K × V)) → AllByRecursion (λ y. R (key k) (key y) ≡ Less) (keys_of es) → T (below_all R (key k) (seen es))
  sorted_below k [] h = tt
  sorted_below k (e ∷ es) h = and_T _ _ (subst (λ r. T (is_lt r)) (sym h.0) tt) (sorted_below k es h.1)

  -- keys that rise in the map rise as they are seen
  pub sorted_seen : (es : List (K × V)) → IsStrictlySortedBy (λ a b. R (key a) (key b)) (keys_of es) → T (is_sorted R (seen es))
  unfolding IsStrictlySortedBy
  sorted_seen [] h = tt
  sorted_seen (e ∷ es) h = and_T _ _ (sorted_below e.0 es h.0) (sorted_seen es h.1)

  module _ (o : IsTotalOrder R) (same : IsAntisymmetric R) where
    same_test : (q k l : L) → eq_by_cmp R k l ≡ true → eq_by_cmp R q l ≡ eq_by_cmp R q k
    same_test q k l e = sym (ap is_eq (alike_right o k l q (equal_if _ e)))

    both_tie : (q k l : L) → eq_by_cmp R k l ≡ false → eq_by_cmp R q l ≡ true → eq_by_cmp R q k ≡ true → ⊥
    both_tie q k l e p r = both_ways _ e (sym ((eq_by_cmp_equiv o).congr q k l r) ∙ p)

    shadow : (b : Bool) (w y z : Option X) → cond b w z ≡ cond b w (cond b y z)
    shadow true w y z = refl
    shadow false w y z = refl

    there_case : (a b : Bool) (w x z : Option X) → (a ≡ true → b ≡ true → ⊥) → cond a x (cond b w z) ≡ cond b w (cond a x z)
    there_case true true w x z h = absurd (h refl refl)
    there_case true false w x z h = refl
    there_case false b w x z h = refl

    find-set : (q : L) (k : L) (w v : V) (es : List (K × V)) → lookup (is_at (λ a. R k (key a))) es ≡ Some v
        → find R q (seen (set_value (is_at (λ a. R k (key a))) es w)) ≡ cond (eq_by_cmp R q k) (Some (value w)) (find R q (seen es))
    find-set q k w v [] h = cc
    find-set q k w v (e ∷ es) h =
        elim (eq_by_cmp R k (key e.0)) as (λ t. eq_by_cmp R k (key e.0) ≡ t → cond t (Some e.1) (lookup (is_at (λ a. R k (key a))) es) ≡ Some v
        → find R q (seen (cond t ((e.0, w) ∷ es) (e ∷ set_value (is_at (λ a. R k (key a))) es w)))
        ≡ cond (eq_by_cmp R q k) (Some (value w)) (cond (eq_by_cmp R q (key e.0)) (Some (value e.1)) (find R q (seen es)))) [
          | true ↦ λ t g. shadow (eq_by_cmp R q (key e.0)) (Some (value w)) (Some (value e.1)) (find R q (seen es))
              ∙ ap (λ b. cond b (Some (value w)) (cond (eq_by_cmp R q (key e.0)) (Some (value e.1)) (find R q (seen es)))) (same_test q k (key e.0) t)
          | false ↦ λ t g. ap (cond (eq_by_cmp R q (key e.0)) (Some (value e.1))) (find-set q k w v es g)
              ∙ there_case (eq_by_cmp R q (key e.0)) (eq_by_cmp R q k) (Some (value w)) (Some (value e.1)) (find R q (seen es)) (both_tie q k (key e.0) t)
        ] refl h

    -- after a write through `get_mut`
    pub written : (k : L) (w v : V) (es : List (K × V)) → lookup (is_at (λ a. R k (key a))) es ≡ Some v
        → from_entries {R = R} (seen (set_value (is_at (λ a. R k (key a))) es w)) ≡ insert (from_entries (seen es)) k (value w)
    written k w v es h = same_map o same _ _ (λ q. get-from_entries o _ q ∙ find-set q k w v es h
        ∙ sym (get-insert o (from_entries (seen es)) k (value w) q ∙ ap (cond (eq_by_cmp R q k) (Some (value w))) (get-from_entries o (seen es) q)))

    -- after `insert`
    pub inserted : (k : K) (v : V) (es : List (K × V))
        → from_entries {R = R} (seen (insert_entry (λ a b. R (key a) (key b)) es k v)) ≡ insert (from_entries (seen es)) (key k) (value v)
    inserted k v es = same_map o same _ _ (λ q.
        get-from_entries o (seen (insert_entry (λ a b. R (key a) (key b)) es k v)) q ∙ ap (find R q) (put-seen k v es) ∙ find-put R o q (key k) (value v) (seen es)
        ∙ sym (get-insert o (from_entries (seen es)) (key k) (value v) q ∙ ap (cond (eq_by_cmp R q (key k)) (Some (value v))) (get-from_entries o (seen es) q)))

    -- what `get` finds
    pub looked_up : (k : L) (es : List (K × V)) → option_map value (lookup (is_at (λ a. R k (key a))) es) ≡ get (from_entries {R = R} (seen es)) k
    looked_up k es = find-seen k es ∙ sym (get-from_entries o (seen es) k)
