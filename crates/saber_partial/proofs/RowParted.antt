-- Parts of one group each, in one list.
use Rattle.std.proofs.Common.{◌≡◌, ◌<◌, ℕ, List, [], ◌∷◌, ◌++◌, length, map, ℤ, sym, ◌∙◌, ap, arith}
use Rattle.std.specs.List.{AllByRecursion}
use Rattle.std.proofs.lemmas.List.{map-append}
use Rattle.saber_plan.specs.Answers.{key}
use Rattle.saber_plan.specs.Parts.{Part, Numbers, numbers, group_part}
use Rattle.saber_plan.specs.Trees.{Tree}
use Rattle.saber_partial.specs.declared.layout.Layout.{Layout}
use Rattle.saber_partial.specs.Flat.{HaveLayout, Suits}
use Rattle.saber_partial.specs.PartLaws.{OfRows}
use Rattle.saber_partial.specs.Sorted.{alone}
use Rattle.saber_partial.proofs.Adding.{one_part, some_found}
use Rattle.saber_partial.proofs.Layouts.{suits_of}

-- where there is a part of the plan, all lie in rows as its items ask
pub of_rows_suit : (q : Tree) (n : ℕ) (l : Layout) (es : List (List ℤ × Numbers)) → HaveLayout l es → AllByRecursion (OfRows q n) (map alone es) → 0 < length es → Suits l (length q.keys) q.aggregates
of_rows_suit q n l [] h p some = absurd (omega (arith, some))
of_rows_suit q n l (e ∷ es) h p some =
    suits_of l (length q.keys) q.aggregates e h.0 (p.0.keys e.0 e.1 (some_found e [])) (p.0.at e.0 e.1 (some_found e [])).1

-- the part of a row more
pub row_more : (q : Tree) (zs k : List ℤ) (es ds fs : List (List ℤ × Numbers)) (ps : List Part) → k ≡ key q.keys zs → map alone es ≡ ps → ds ≡ es
    → fs ≡ ds ++ (k, numbers q.aggregates (zs ∷ [])) ∷ [] → map alone fs ≡ ps ++ group_part q (zs ∷ []) ∷ []
row_more q zs k es ds fs ps here seen same new =
    let v = numbers q.aggregates (zs ∷ []) in
    ap (map alone) (new ∙ ap (λ l. l ++ (k, v) ∷ []) same)
    ∙ map-append alone es ((k, v) ∷ [])
    ∙ (λ i. seen i ++ (ap (λ (j : List ℤ). alone (j, v)) here ∙ sym (one_part q zs)) i ∷ [])

pub all_more : (P : Part → Type 0) (ps : List Part) (p : Part) → AllByRecursion P ps → P p → AllByRecursion P (ps ++ p ∷ [])
all_more P [] p h g = (g, tt)
all_more P (o ∷ ps) p h g = (h.0, all_more P ps p h.1 g)
