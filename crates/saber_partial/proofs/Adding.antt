-- One row added to a part.
use Rattle.std.proofs.Common.{◌≡◌, List, [], ◌∷◌, Bool, true, false, cond, ℤ, Some, None, refl, sym, ◌∙◌, ap, ◌==◌, length}
use Rattle.std.specs.Cmp.{tied_itself}
use Rattle.std.specs.Ordering.{is_eq}
use Rattle.std.specs.FinMap.{get, insert, from_entries, find, len, empty_of_len, get-from_entries, get-empty}
use Rattle.std.proofs.lemmas.Bool.{eqb-true}
use Rattle.saber_plan.specs.Tasks.{full}
use Rattle.saber_plan.specs.Trees.{Tree}
use Rattle.saber_plan.specs.Answers.{key_cmp, key}
use Rattle.saber_plan.specs.Merges.{joined_value}
use Rattle.saber_plan.specs.Parts.{Part, Numbers, numbers, join_numbers, group_part, merge}
use Rattle.saber_plan.specs.Facts.Parts.{total, exact, merge-empty_right}
use Rattle.saber_plan.specs.Facts.Maps.{take_one}
use Rattle.saber_partial.specs.Tallies.{CanMerge, FitsAt}
use Rattle.saber_partial.specs.Sorted.{part_of}
use Rattle.saber_partial.specs.MergeFacts.{not_both}

-- the part of one row
pub one_part : (q : Tree) (zs : List ℤ) → group_part q (zs ∷ []) ≡ from_entries {R = key_cmp} ((key q.keys zs, numbers q.aggregates (zs ∷ [])) ∷ [])
unfolding group_part
one_part q zs = ap (λ b. from_entries {R = key_cmp} ((key q.keys zs, numbers q.aggregates (cond b (zs ∷ []) [])) ∷ [])) (ap is_eq (tied_itself total (key q.keys zs)))

pub merge_one : (m : Part) (k : List ℤ) (v : Numbers) → insert m k (joined_value join_numbers (get m k) v) ≡ merge m (from_entries ((k, v) ∷ []))
merge_one m k v = sym (merge-empty_right (insert m k (joined_value join_numbers (get m k) v))) ∙ take_one total exact join_numbers m k v [] refl

-- put in at its key, joined with what was there
pub add_at : (q : Tree) (m : Part) (zs : List ℤ) (k : List ℤ) (n : Numbers) → k ≡ key q.keys zs → n ≡ joined_value join_numbers (get m k) (numbers q.aggregates (zs ∷ [])) → insert m k n ≡ merge m (group_part q (zs ∷ []))
add_at q m zs k n h e = ap (insert m k) e ∙ ap (λ l. insert m l (joined_value join_numbers (get m l) (numbers q.aggregates (zs ∷ [])))) h ∙ merge_one m (key q.keys zs) (numbers q.aggregates (zs ∷ [])) ∙ ap (merge m) (sym (one_part q zs))

pub some_found : (x : List ℤ × Numbers) (es : List (List ℤ × Numbers)) → get (part_of (x ∷ es)) x.0 ≡ Some x.1
some_found x es = get-from_entries total (x ∷ es) x.0 ∙ ap (λ r. cond (is_eq r) (Some x.1) (find key_cmp x.0 es)) (tied_itself total x.0)

-- what is there can take in the numbers of the row, which are like them
pub add_fits : (q : Tree) (m : Part) (zs : List ℤ) (k : List ℤ) → k ≡ key q.keys zs → CanMerge m (group_part q (zs ∷ [])) → FitsAt m k (numbers q.aggregates (zs ∷ []))
add_fits q m zs k h c =
    let one = ap (λ p. get p k) (one_part q zs ∙ ap (λ l. part_of ((l, numbers q.aggregates (zs ∷ [])) ∷ [])) (sym h)) ∙ some_found (k, numbers q.aggregates (zs ∷ [])) [] in
    record { at = λ a g. c.at k a (numbers q.aggregates (zs ∷ [])) g one; alike = λ j a g. c.alike j k a (numbers q.aggregates (zs ∷ [])) g one }

some_case : (es : List (List ℤ × Numbers)) (b : Bool) → (len (part_of es) == 0) ≡ b → (length es ≡ 0 → ⊥) → cond b None (Some (part_of es)) ≡ Some (part_of es)
some_case es false e h = refl
some_case [] true e h = absurd (h refl)
some_case (x ∷ es) true e h = absurd (not_both (ap (λ m. get m x.0) (empty_of_len (part_of (x ∷ es)) (eqb-true (len (part_of (x ∷ es))) 0 e)) ∙ get-empty key_cmp x.0) (some_found x es))

-- a list with an entry is no empty part
pub some_groups : (es : List (List ℤ × Numbers)) → (length es ≡ 0 → ⊥) → full (part_of es) ≡ Some (part_of es)
some_groups es h = some_case es _ refl h
