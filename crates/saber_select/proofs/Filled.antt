-- A part with a row in it.
use Rattle.std.proofs.Common.{◌≡◌, ◌≢◌, List, [], ◌∷◌, Bool, true, false, cond, Option, Some, None, refl, ◌∙◌, ap, ◌==◌, map}
use Rattle.std.specs.Cmp.{tied_itself}
use Rattle.std.specs.Ordering.{is_eq}
use Rattle.std.specs.FinMap.{get, find, len, empty_of_len, get-from_entries, get-empty}
use Rattle.std.proofs.lemmas.Bool.{eqb-true}
use Rattle.saber_plan.specs.Parts.{no_part, numbers_of_one}
use Rattle.saber_plan.specs.Tasks.{full}
use Rattle.saber_plan.specs.Answers.{key_cmp}
use Rattle.saber_plan.specs.Facts.Parts.{total}
use Rattle.saber_select.specs.Found.{Found, entry_of, part_of}

not_both : {A : Type 0} {o : Option A} {y : A} → o ≡ None → o ≡ Some y → ⊥
not_both e h = cc

pub no_rows : (es : List Found) → es ≡ [] → part_of es ≡ no_part
no_rows es e = ap part_of e

some_found : (e : Found) (es : List Found) → get (part_of (e ∷ es)) (entry_of e).0 ≡ Some (numbers_of_one e.1)
some_found e es = get-from_entries total (map entry_of (e ∷ es)) (entry_of e).0 ∙ ap (λ b. cond (is_eq b) (Some (numbers_of_one e.1)) (find key_cmp (entry_of e).0 (map entry_of es))) (tied_itself total (entry_of e).0)

some_case : (es : List Found) (b : Bool) → (len (part_of es) == 0) ≡ b → es ≢ [] → cond b None (Some (part_of es)) ≡ Some (part_of es)
some_case es false e h = refl
some_case [] true e h = absurd (h refl)
some_case (x ∷ es) true e h = absurd (not_both (ap (λ m. get m (entry_of x).0) (empty_of_len (part_of (x ∷ es)) (eqb-true (len (part_of (x ∷ es))) 0 e)) ∙ get-empty key_cmp (entry_of x).0) (some_found x es))

pub some_rows : (es : List Found) → es ≢ [] → full (part_of es) ≡ Some (part_of es)
some_rows es h = some_case es _ refl h
