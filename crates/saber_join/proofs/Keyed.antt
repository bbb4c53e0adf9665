-- Pairs put into a part that has none of them.
use Rattle.std.proofs.Common.{◌≡◌, List, ◌∷◌, Bool, true, false, cond, T, ℤ, Option, Some, None, refl, sym, ◌∙◌, ap}
use Rattle.std.specs.Cmp.{tied_itself}
use Rattle.std.specs.Ordering.{eq_by_cmp, is_eq}
use Rattle.std.specs.FinMap.{get, insert, from_entries, find, is_sorted, get-from_entries, get-insert}
use Rattle.std.specs.FinMap.Entries.{find_tied}
use Rattle.saber_plan.specs.Answers.{key_cmp}
use Rattle.saber_plan.specs.Merges.{joined_value}
use Rattle.saber_plan.specs.Facts.Maps.{equal_if, take_one, first_alone}
use Rattle.saber_plan.specs.Facts.Parts.{total, exact}
use Rattle.saber_plan.specs.Parts.{Part, Numbers, join_numbers, merge}
use Rattle.saber_join.specs.Found.{Apart}

pub not_both : {A : Type 0} {o : Option A} {y : A} → o ≡ None → o ≡ Some y → ⊥
not_both e h = cc

abbrev pub made : List (List ℤ × Numbers) → Part
made es = from_entries {R = key_cmp} es

-- the first of the new pairs is under no key so far
pub first_new : (m : Part) (k : List ℤ) (b : Numbers) (es : List (List ℤ × Numbers)) → Apart m (made ((k, b) ∷ es)) → get m k ≡ None
first_new m k b es h = h.at k b (get-from_entries total ((k, b) ∷ es) k ∙ ap (λ r. cond (is_eq r) (Some b) (find key_cmp k es)) (tied_itself total k))

-- put in, it leaves the others to merge
pub step_rest : (m : Part) (k : List ℤ) (b : Numbers) (es : List (List ℤ × Numbers)) → Apart m (made ((k, b) ∷ es)) → T (is_sorted key_cmp ((k, b) ∷ es)) → merge (insert m k b) (made es) ≡ merge m (made ((k, b) ∷ es))
step_rest m k b es h s = ap (λ o. merge (insert m k (joined_value join_numbers o b)) (made es)) (sym (first_new m k b es h)) ∙ take_one total exact join_numbers m k b es (first_alone key_cmp (k, b) es s)

apart_case : (m : Part) (k : List ℤ) (b : Numbers) (es : List (List ℤ × Numbers)) (q : List ℤ) (y : Numbers) (t : Bool) → (t ≡ true → find key_cmp q es ≡ None) → Apart m (made ((k, b) ∷ es))
    → eq_by_cmp key_cmp q k ≡ t → find key_cmp q es ≡ Some y → cond t (Some b) (get m q) ≡ None
apart_case m k b es q y true none h t g = absurd (not_both (none refl) g)
apart_case m k b es q y false none h t g = h.at q y (get-from_entries total ((k, b) ∷ es) q ∙ ap (λ d. cond d (Some b) (find key_cmp q es)) t ∙ g)

-- and they stay apart
pub step_apart : (m : Part) (k : List ℤ) (b : Numbers) (es : List (List ℤ × Numbers)) → T (is_sorted key_cmp ((k, b) ∷ es)) → Apart m (made ((k, b) ∷ es)) → Apart (insert m k b) (made es)
step_apart m k b es s h = record {
  at = λ q y g. get-insert total m k b q ∙ apart_case m k b es q y (eq_by_cmp key_cmp q k) (λ e. sym (find_tied key_cmp total q k (equal_if _ e) es) ∙ first_alone key_cmp (k, b) es s) h refl (sym (get-from_entries total es q) ∙ g);
}
