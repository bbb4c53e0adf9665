-- Parts of one plan lie in rows of one layout.
use Rattle.std.proofs.Common.{if◌then◌else◌, ◌≡◌, ℕ, ◌+◌, ◌-◌, ◌<◌, List, [], ◌∷◌, ◌++◌, length, take, drop, ℤ, Some, None, ◌==◌, refl, sym, ◌∙◌, ap, subst, arith}
use Rattle.std.specs.FinMap.{len-empty}
use Rattle.saber_plan.specs.Answers.{key_cmp}
use Rattle.std.specs.List.{insert, AllByRecursion}
use Rattle.std.proofs.lemmas.List.{length-drop, length-map, take-append-drop}
use Rattle.saber_plan.specs.declared.plans.Aggregate.{Aggregate}
use Rattle.saber_plan.specs.declared.plans.Fold.{Fold}
use Rattle.saber_plan.specs.declared.plans.Fold.TheVariants.{Sum}
use Rattle.saber_plan.specs.Parts.{Numbers, no_part, numbers}
use Rattle.saber_plan.specs.Tasks.{full}
use Rattle.saber_partial.specs.declared.layout.Layout.{Layout}
use Rattle.saber_partial.specs.Flat.{HasLayout, HaveLayout, IsLayout, Suits}
use Rattle.saber_partial.specs.Sorted.{part_of, Rises}
use Rattle.saber_partial.specs.Tallies.{folds_of, Alike, CanMerge, FitsAt, with_row}
use Rattle.saber_partial.specs.Gathering.{plan_folds}
use Rattle.saber_partial.specs.MergeFacts.{not_both}
use Rattle.saber_partial.proofs.Folded.{folds-row, length-folds}
use Rattle.saber_partial.proofs.Rising.{get_there, filled_part}

-- what isn't an empty part has an entry
pub entry_in_full : (es : List (List ℤ × Numbers)) → full (part_of es) ≡ Some (part_of es) → 0 < length es
entry_in_full [] h =
    let none : full (part_of []) ≡ None = ap (λ n. if n == 0 then None else Some (part_of [])) (len-empty key_cmp Numbers) in
    absurd (not_both none h)
entry_in_full (e ∷ es) h = omega arith

-- lists of one element over and over are one
all_sums : (fs gs : List Fold) → AllByRecursion (λ f. f ≡ Sum) fs → AllByRecursion (λ f. f ≡ Sum) gs → length fs ≡ length gs → fs ≡ gs
all_sums [] [] h k e = refl
all_sums [] (g ∷ gs) h k e = absurd (omega (arith, e))
all_sums (f ∷ fs) [] h k e = absurd (omega (arith, e))
all_sums (f ∷ fs) (g ∷ gs) h k e = λ i. (h.0 ∙ sym k.0) i ∷ all_sums fs gs h.1 k.1 (omega (arith, e)) i

-- folds of which the first are those of the same list
one_fold : (n : ℕ) (fs gs : List Fold) → length fs ≡ length gs → take n fs ≡ take n gs → AllByRecursion (λ f. f ≡ Sum) (drop n fs) → AllByRecursion (λ f. f ≡ Sum) (drop n gs) → fs ≡ gs
one_fold n fs gs long same h k =
    let a = length-drop n fs in
    let b = length-drop n gs in
    sym (take-append-drop n fs) ∙ (λ i. same i ++ all_sums (drop n fs) (drop n gs) h k (omega (arith, a, b, long)) i) ∙ take-append-drop n gs

-- a row that is alike lies in its row alike
alike_layout : (l m : Layout) (e f : List ℤ × Numbers) → IsLayout l → IsLayout m → HasLayout l e → HasLayout m f → Alike e.0 f.0 e.1 f.1 → l ≡ m
alike_layout l m e f p q h k a =
    let keys : l.keys ≡ m.keys = sym h.keys ∙ a.keys ∙ k.keys in
    let many : length e.1.values ≡ length f.1.values =
    sym (length-map e.1.values (λ v. v.fold)) ∙ ap length a.folds ∙ length-map f.1.values (λ v. v.fold) in
    let mine = h.width in
    let theirs = k.width in
    let width : l.width ≡ m.width = omega (arith, keys, many, mine, theirs) in
    let n = length e.1.values in
    let of_l : l.width - (l.keys + 1) ≡ n = omega (arith, mine) in
    let of_m : m.width - (m.keys + 1) ≡ n = omega (arith, theirs, many) in
    let folds = one_fold n l.folds m.folds (p.long ∙ sym q.long) (sym h.folds ∙ a.folds ∙ k.folds ∙ ap (λ j. take j m.folds) (sym many))
    (subst (λ j. AllByRecursion (λ f. f ≡ Sum) (drop j l.folds)) of_l p.rest) (subst (λ j. AllByRecursion (λ f. f ≡ Sum) (drop j m.folds)) of_m q.rest) in
    (λ i. record { keys = keys i; width = width i; folds = folds i })

-- an entry that goes on as the aggregates of a plan lies as they ask
pub suits_of : (l : Layout) (n : ℕ) (gs : List Aggregate) (e : List ℤ × Numbers) → HasLayout l e → length e.0 ≡ n → folds_of e.1.values ≡ plan_folds gs → Suits l n gs
suits_of l n gs e h keys folds =
    let many : length e.1.values ≡ length gs = sym (length-map e.1.values (λ v. v.fold)) ∙ ap length folds ∙ length-folds gs in
    let own = h.keys in
    let width = h.width in
    record {
      keys = sym own ∙ keys;
      width = omega (arith, own, keys, width, many);
      folds = ap (λ j. take j l.folds) (sym many) ∙ sym h.folds ∙ folds;
    }

-- where neither part is empty, the first groups tell
pub one_layout : (l m : Layout) (es fs : List (List ℤ × Numbers)) → IsLayout l → IsLayout m → HaveLayout l es → HaveLayout m fs → Rises es → Rises fs
    → CanMerge (part_of es) (part_of fs) → 0 < length es → 0 < length fs → l ≡ m
one_layout l m [] fs v w h k s t c p q = absurd (omega (arith, p))
one_layout l m (e ∷ es) [] v w h k s t c p q = absurd (omega (arith, q))
one_layout l m (e ∷ es) (f ∷ fs) v w h k s t c p q =
    alike_layout l m e f v w h.0 k.0 (c.alike e.0 f.0 e.1 f.1 (get_there (e ∷ es) e.0 0 e s (omega arith) refl) (get_there (f ∷ fs) f.0 0 f t (omega arith) refl))

-- the part of a first group
pub first_part : (k : List ℤ) (v : Numbers) → part_of (insert [] 0 (k, v)) ≡ with_row no_part k v
first_part k v = filled_part [] (insert [] 0 (k, v)) k 0 v tt (record { within = omega arith; below = λ j d l. absurd (omega (arith, l)); above = λ j d a l. absurd (omega (arith, l)) }) refl

-- a row's group lies alike where there is a group and all are like it
pub suits_there : (l : Layout) (es : List (List ℤ × Numbers)) (k : List ℤ) (gs : List Aggregate) (zs : List ℤ) → HaveLayout l es → Rises es → FitsAt (part_of es) k (numbers gs (zs ∷ [])) → 0 < length es → Suits l (length k) gs
suits_there l [] k gs zs h s f p = absurd (omega (arith, p))
suits_there l (e ∷ es) k gs zs h s f p =
    let a = f.alike e.0 e.1 (get_there (e ∷ es) e.0 0 e s (omega arith) refl) in
    suits_of l (length k) gs e h.0 a.keys (a.folds ∙ folds-row gs (zs ∷ []))
