-- One part after another taken into a store.
use Rattle.std.proofs.Common.{◌≡◌, ℕ, List, ◌∷◌, Bool, true, false, cond, T, Option, Some, None, refl, sym, ◌∙◌, ap, nat_cmp, Global, []}
use Rattle.std.specs.Cmp.{nat_cmp_total, tied_itself}
use Rattle.std.specs.Ordering.{eq_by_cmp, is_eq}
use Rattle.std.specs.FinMap.{get, insert, from_entries, find, is_sorted, get-from_entries, get-insert, nat_cmp-IsAntisymmetric}
use Rattle.std.specs.FinMap.Entries.{find_tied}
use Rattle.std.proofs.lemmas.List.{nil_from_length}
use Rattle.std.specs.Vec.Iter.{into_iter_len, into_iter_items}
use Rattle.std.specs.declared.vec.IntoIter.{IntoIter}
use Rattle.saber_plan.specs.Merges.{joined_value, both}
use Rattle.saber_plan.specs.Trees.{Tree}
use Rattle.saber_plan.specs.Parts.{Part, merge}
use Rattle.saber_plan.specs.Tasks.{Parts}
use Rattle.saber_plan.specs.GivenRows.{AreNeighbors}
use Rattle.saber_plan.specs.Facts.Maps.{equal_if, take_one, first_alone}
use Rattle.saber_parts.specs.Stored.{CanTakeIn}

abbrev made : List (ℕ × Part) → Parts
made es = from_entries {R = nat_cmp} es

pub part_rest : (m : Parts) (k : ℕ) (b n : Part) (es : List (ℕ × Part)) → n ≡ joined_value merge (get m k) b → T (is_sorted nat_cmp ((k, b) ∷ es)) → both merge (insert m k n) (made es) ≡ both merge m (made ((k, b) ∷ es))
part_rest m k b n es e s = ap (λ x. both merge (insert m k x) (made es)) e ∙ take_one nat_cmp_total nat_cmp-IsAntisymmetric merge m k b es (first_alone nat_cmp (k, b) es s)

not_there : {o : Option Part} {y : Part} → o ≡ None → o ≡ Some y → ⊥
not_there e h = cc

can_case : (q : Tree) (m : Parts) (k : ℕ) (b n : Part) (es : List (ℕ × Part)) (i : ℕ) (x y : Part) (t : Bool) → (t ≡ true → find nat_cmp i es ≡ None) → CanTakeIn q m (made ((k, b) ∷ es))
    → eq_by_cmp nat_cmp i k ≡ t → cond t (Some n) (get m i) ≡ Some x → find nat_cmp i es ≡ Some y → AreNeighbors q x y
can_case q m k b n es i x y true none c t g h = absurd (not_there (none refl) h)
can_case q m k b n es i x y false none c t g h = c.at i x y g (get-from_entries nat_cmp_total ((k, b) ∷ es) i ∙ ap (λ d. cond d (Some b) (find nat_cmp i es)) t ∙ h)

pub part_fits : (q : Tree) (m : Parts) (k : ℕ) (b n : Part) (es : List (ℕ × Part)) → T (is_sorted nat_cmp ((k, b) ∷ es)) → CanTakeIn q m (made ((k, b) ∷ es)) → CanTakeIn q (insert m k n) (made es)
part_fits q m k b n es s c = record {
  at = λ i x y g h. can_case q m k b n es i x y (eq_by_cmp nat_cmp i k) (λ e. sym (find_tied nat_cmp nat_cmp_total i k (equal_if _ e) es) ∙ first_alone nat_cmp (k, b) es s) c refl
      (sym (get-insert nat_cmp_total m k n i) ∙ g) (sym (get-from_entries nat_cmp_total es i) ∙ h);
}

pub part_here : (q : Tree) (m : Parts) (k : ℕ) (a b : Part) (es : List (ℕ × Part)) → CanTakeIn q m (made ((k, b) ∷ es)) → get m k ≡ Some a → AreNeighbors q a b
part_here q m k a b es c g = c.at k a b g (get-from_entries nat_cmp_total ((k, b) ∷ es) k ∙ ap (λ r. cond (is_eq r) (Some b) (find nat_cmp k es)) (tied_itself nat_cmp_total k))

-- an iterator that gave all has nothing left
pub all_given : {X : Type 0} (it : IntoIter X Global) → into_iter_len it ≡ 0 → into_iter_items it ≡ []
all_given it e = nil_from_length _ (sym it.rest.ok.0 ∙ e)
