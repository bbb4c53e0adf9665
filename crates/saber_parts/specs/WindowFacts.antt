-- Facts on what windows give to a task's piece. Any proof may cite them.
use Rattle.std.proofs.Common.{◌≡◌, ℕ, List, [], ◌∷◌, ◌++◌, map, Bool, true, false, cond, ◌==◌, Option, None, Some, refl, sym, ◌∙◌, ap, append-nil}
use Rattle.std.proofs.lemmas.List.{map-append}
use Rattle.std.specs.Option.{option_map_or}
use Rattle.std.specs.FinMap.{len-empty}
use Rattle.saber_plan.specs.Trees.{Tree}
use Rattle.saber_plan.specs.Answers.{key_cmp, entry_lines}
use Rattle.saber_plan.specs.Parts.{Part, Numbers, no_part, part_lines, group_answer}
use Rattle.saber_plan.specs.Tasks.{full}
use Rattle.saber_plan.specs.Facts.Maps.{entries-empty}
use Rattle.saber_fragment.specs.Shown.{windows_by}
use Rattle.saber_parts.specs.Entries.{entry, entry_if, lines_if}

full_none : (p : Part) → p ≡ no_part → full p ≡ None
full_none p e = ap full e ∙ ap (λ n. cond (n == 0) None (Some no_part)) (len-empty key_cmp Numbers)

entry_none : (i : ℕ) (p : Part) → p ≡ no_part → entry i p ≡ []
entry_none i p e = ap (λ o. option_map_or (λ r. (i, r) ∷ []) o []) (full_none p e)

-- an empty part gives no entry
pub no_entry : (w : Bool) (i : ℕ) (p : Part) → p ≡ no_part → entry_if w i p ≡ []
no_entry true i p e = entry_none i p e
no_entry false i p e = refl

pub none_kept : (es : List (ℕ × Part)) (i : ℕ) (p : Part) → p ≡ no_part → es ≡ es ++ entry i p
none_kept es i p e = sym (ap (λ l. es ++ l) (entry_none i p e) ∙ append-nil es)

-- and no line
pub no_lines : (w : Bool) (q : Tree) (i : ℕ) (p : Part) → p ≡ no_part → lines_if w q i p ≡ []
no_lines true q i p e = ap (part_lines q i) e ∙ ap (λ es. entry_lines i (map (group_answer q.shape q.items) es)) (entries-empty key_cmp)
no_lines false q i p e = refl

-- another part gives one
pub some_kept : {P : Type 0} (shown : P → Part) (old new : List (ℕ × P)) (i : ℕ) (p : P) → full (shown p) ≡ Some (shown p) → new ≡ old ++ (i, p) ∷ [] → windows_by shown new ≡ windows_by shown old ++ entry i (shown p)
some_kept shown old new i p h e =
    ap (windows_by shown) e ∙ map-append (λ f. (f.0, shown f.1)) old ((i, p) ∷ [])
    ∙ ap (λ (o : Option Part). windows_by shown old ++ option_map_or (λ r. (i, r) ∷ []) o []) (sym h)

pub entry_is : (w : Bool) (i : ℕ) (p : Part) → entry_if w i p ≡ option_map_or (λ r. (i, r) ∷ []) (cond w (full p) None) []
entry_is true i p = refl
entry_is false i p = refl

-- parts that are shown as they are
pub as_they_are : (es : List (ℕ × Part)) → windows_by (λ p. p) es ≡ es
as_they_are [] = refl
as_they_are (e ∷ es) = ap (λ l. e ∷ l) (as_they_are es)
