-- One entry after another taken into a map.
use Rattle.std.proofs.Common.{◌≡◌, List, ◌∷◌, Bool, true, false, cond, T, ℤ, Some, None, Result, Ok, Err, OnOk, OnErr, refl, sym, ◌∙◌, ap}
use Rattle.std.specs.Cmp.{tied_itself}
use Rattle.std.specs.Ordering.{eq_by_cmp, is_eq}
use Rattle.std.specs.FinMap.{get, insert, from_entries, find, is_sorted, get-from_entries, get-insert}
use Rattle.std.specs.FinMap.Entries.{find_tied}
use Rattle.saber_plan.specs.Answers.{key_cmp}
use Rattle.saber_plan.specs.Parts.{Part, Numbers, join_numbers, merge}
use Rattle.saber_plan.specs.Facts.Parts.{total, exact}
use Rattle.saber_plan.specs.Facts.Maps.{equal_if, take_one, first_alone}
use Rattle.saber_partial.specs.Tallies.{CanJoin}
use Rattle.saber_partial.specs.MergeFacts.{not_both}
use Rattle.saber_partial.specs.Sorted.{JoinsFit}
use Rattle.saber_plan.specs.Merges.{joined_value}

-- what holds at both ends
pub either : {T E : Type 0} (r : Result T E) (P Q R : Type 0) → OnOk r P → OnErr r Q → (P → R) → (Q → R) → R
either (Ok x) P Q R p q f g = f p
either (Err x) P Q R p q f g = g q

-- one step of the merge of parts
abbrev made : List (List ℤ × Numbers) → Part
made es = from_entries {R = key_cmp} es

pub step_rest : (m : Part) (k : List ℤ) (b n : Numbers) (es : List (List ℤ × Numbers)) → n ≡ joined_value join_numbers (get m k) b → T (is_sorted key_cmp ((k, b) ∷ es)) → merge (insert m k n) (made es) ≡ merge m (made ((k, b) ∷ es))
step_rest m k b n es e s = ap (λ x. merge (insert m k x) (made es)) e ∙ take_one total exact join_numbers m k b es (first_alone key_cmp (k, b) es s)

fits_case : (m : Part) (k : List ℤ) (b n : Numbers) (es : List (List ℤ × Numbers)) (q : List ℤ) (x y : Numbers) (t : Bool) → (t ≡ true → find key_cmp q es ≡ None) → JoinsFit m (made ((k, b) ∷ es))
    → eq_by_cmp key_cmp q k ≡ t → cond t (Some n) (get m q) ≡ Some x → find key_cmp q es ≡ Some y → CanJoin x y
fits_case m k b n es q x y true none c t g h = absurd (not_both (none refl) h)
fits_case m k b n es q x y false none c t g h = c.at q x y g (get-from_entries total ((k, b) ∷ es) q ∙ ap (λ d. cond d (Some b) (find key_cmp q es)) t ∙ h)

pub step_fits : (m : Part) (k : List ℤ) (b n : Numbers) (es : List (List ℤ × Numbers)) → T (is_sorted key_cmp ((k, b) ∷ es)) → JoinsFit m (made ((k, b) ∷ es)) → JoinsFit (insert m k n) (made es)
step_fits m k b n es s c = record {
  at = λ q x y g h. fits_case m k b n es q x y (eq_by_cmp key_cmp q k) (λ e. sym (find_tied key_cmp total q k (equal_if _ e) es) ∙ first_alone key_cmp (k, b) es s) c refl
      (sym (get-insert total m k n q) ∙ g) (sym (get-from_entries total es q) ∙ h);
}

pub join_here : (m : Part) (k : List ℤ) (a b : Numbers) (es : List (List ℤ × Numbers)) → JoinsFit m (made ((k, b) ∷ es)) → get m k ≡ Some a → CanJoin a b
join_here m k a b es c g = c.at k a b g (get-from_entries total ((k, b) ∷ es) k ∙ ap (λ r. cond (is_eq r) (Some b) (find key_cmp k es)) (tied_itself total k))
