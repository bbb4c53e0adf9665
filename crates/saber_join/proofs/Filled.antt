-- A part with a pair in it.
use Rattle.std.proofs.Common.{◌≡◌, List, [], ◌∷◌, Bool, true, false, cond, ℤ, Some, None, refl, ◌∙◌, ap, Vec, Global, ◌==◌, length}
use Rattle.std.specs.Cmp.{tied_itself}
use Rattle.std.specs.Ordering.{is_eq}
use Rattle.std.specs.FinMap.{get, find, len, empty_of_len, get-from_entries, get-empty}
use Rattle.std.proofs.lemmas.Bool.{eqb-true}
use Rattle.saber_plan.specs.Parts.{numbers_of_one}
use Rattle.saber_plan.specs.Tasks.{full}
use Rattle.saber_plan.specs.Answers.{key_cmp}
use Rattle.saber_plan.specs.Facts.Parts.{total}
use Rattle.saber_join.specs.Found.{seen_entries, seen_pairs}
use Rattle.saber_join.proofs.Keyed.{not_both}

some_found : (x : List ℤ × Vec ℤ Global) (es : List (List ℤ × Vec ℤ Global)) → get (seen_pairs (x ∷ es)) x.0 ≡ Some (numbers_of_one x.1.items)
some_found x es = get-from_entries total (seen_entries (x ∷ es)) x.0 ∙ ap (λ b. cond (is_eq b) (Some (numbers_of_one x.1.items)) (find key_cmp x.0 (seen_entries es))) (tied_itself total x.0)

some_case : (es : List (List ℤ × Vec ℤ Global)) (b : Bool) → (len (seen_pairs es) == 0) ≡ b → (length es ≡ 0 → ⊥) → cond b None (Some (seen_pairs es)) ≡ Some (seen_pairs es)
some_case es false e h = refl
some_case [] true e h = absurd (h refl)
some_case (x ∷ es) true e h = absurd (not_both (ap (λ m. get m x.0) (empty_of_len (seen_pairs (x ∷ es)) (eqb-true (len (seen_pairs (x ∷ es))) 0 e)) ∙ get-empty key_cmp x.0) (some_found x es))

-- a map with an entry is no empty part
pub some_pairs : (es : List (List ℤ × Vec ℤ Global)) → (length es ≡ 0 → ⊥) → full (seen_pairs es) ≡ Some (seen_pairs es)
some_pairs es h = some_case es _ refl h
