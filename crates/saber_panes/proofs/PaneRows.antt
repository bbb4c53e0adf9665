-- What the panes of rows have, and that later rows are taken in.
use Rattle.std.proofs.Common.{◌≡◌, ℕ, List, [], ◌∷◌, ◌++◌, map, Bool, true, false, cond, ◌==◌, Option, Some, refl, sym, ◌∙◌, ap, ap₂, nat_cmp, append-nil, ℤ, arith}
use Rattle.std.proofs.lemmas.Bool.Decides.{nat_tests}
use Rattle.std.proofs.lemmas.Bool.{eqb-true}
use Rattle.std.proofs.lemmas.List.{map-append}
use Rattle.std.proofs.lemmas.List.Elements.{filter-append}
use Rattle.std.specs.Cmp.{nat_cmp_total}
use Rattle.std.specs.Ordering.{eq_by_cmp}
use Rattle.std.specs.FinMap.{get, find, get-from_entries, same_map, nat_cmp-IsAntisymmetric}
use Rattle.saber_plan.specs.declared.rows.Row.{Row}
use Rattle.saber_plan.specs.declared.windows.Mark.{Mark}
use Rattle.saber_plan.specs.Trees.{Tree}
use Rattle.saber_plan.specs.Windows.{Placed, placed_after, mark_after}
use Rattle.saber_plan.specs.Answers.{frame}
use Rattle.saber_plan.specs.Merges.{join, both}
use Rattle.saber_plan.specs.Parts.{Part, no_part, group_part, merge}
use Rattle.saber_plan.specs.Facts.Maps.{get-both}
use Rattle.saber_plan.specs.Facts.Rows.{placed-append}
use Rattle.saber_plan.specs.Facts.Parts.{if_any}
use Rattle.saber_panes.specs.Panes.{panes_in, panes_here, pane_of, pane_part, in_pane, is_counted, counted_rows, or_none}
use Rattle.saber_laws.proofs.PartLaws.{groups_join}

-- ---- numbers as keys

same_test : (j k : ℕ) → eq_by_cmp nat_cmp j k ≡ (j == k)
same_test j k = grind (arith, nat_tests)

abbrev pub values_in : List Placed → List (List ℤ)
values_in us = map (λ x. x.row.values) us

find_case : (g : ℕ → Part) (j k : ℕ) (x : Placed) (l : List Placed) (o : Option Part) (b : Bool) → (b ≡ true → j ≡ k) → o ≡ if_any l (g j) → cond b (Some (g k)) o ≡ if_any (cond b (x ∷ l) l) (g j)
find_case g j k x l o true same e = ap (λ n. Some (g n)) (sym (same refl))
find_case g j k x l o false same e = e

find_panes : (q : Tree) (g : ℕ → Part) (j : ℕ) (us : List Placed) → find nat_cmp j (map (λ j. (j, g j)) (map (pane_of (frame q)) us)) ≡ if_any (in_pane q j us) (g j)
find_panes q g j [] = refl
find_panes q g j (x ∷ us) =
    ap (λ b. cond b (Some (g (pane_of (frame q) x))) (find nat_cmp j (map (λ j. (j, g j)) (map (pane_of (frame q)) us)))) (same_test j (pane_of (frame q) x))
    ∙ find_case g j (pane_of (frame q) x) x (in_pane q j us) _ (j == pane_of (frame q) x) (λ t. eqb-true j (pane_of (frame q) x) t) (find_panes q g j us)

-- what a pane has
pub get-panes : (q : Tree) (us : List Placed) (j : ℕ) → get (panes_in q us) j ≡ if_any (in_pane q j us) (pane_part q j us)
unfolding panes_in
get-panes q us j = get-from_entries nat_cmp_total _ j ∙ find_panes q (λ j. pane_part q j us) j us

any_or_none : (q : Tree) (l : List Placed) → group_part q [] ≡ no_part → or_none (if_any l (group_part q (values_in l))) ≡ group_part q (values_in l)
any_or_none q [] e = sym e
any_or_none q (x ∷ l) e = refl

pub pane_or_none : (q : Tree) → group_part q [] ≡ no_part → (us : List Placed) (j : ℕ) → or_none (get (panes_in q us) j) ≡ pane_part q j us
pane_or_none q e us j = ap or_none (get-panes q us j) ∙ any_or_none q (in_pane q j us) e

-- ---- more rows

any-append : (q : Tree) (us vs : List Placed) → if_any (us ++ vs) (group_part q (values_in (us ++ vs))) ≡ join merge (if_any us (group_part q (values_in us))) (if_any vs (group_part q (values_in vs)))
any-append q [] vs = refl
any-append q (u ∷ us) [] = ap (λ l. Some (group_part q (values_in l))) (append-nil (u ∷ us))
any-append q (u ∷ us) (v ∷ vs) = ap Some (ap (group_part q) (map-append (λ (x : Placed). x.row.values) (u ∷ us) (v ∷ vs)) ∙ groups_join q (values_in (u ∷ us)) (values_in (v ∷ vs)))

pub panes-append : (q : Tree) (us vs : List Placed) → panes_in q (us ++ vs) ≡ both merge (panes_in q us) (panes_in q vs)
panes-append q us vs = same_map nat_cmp_total nat_cmp-IsAntisymmetric _ _ (λ k.
    get-panes q (us ++ vs) k
    ∙ ap (λ l. if_any l (group_part q (values_in l))) (filter-append (λ (x : Placed). k == pane_of (frame q) x) us vs)
    ∙ any-append q (in_pane q k us) (in_pane q k vs)
    ∙ sym (get-both nat_cmp_total merge (panes_in q us) (panes_in q vs) k ∙ ap₂ (join merge) (get-panes q us k) (get-panes q vs k)))

pub counted-append : (q : Tree) (m : Mark) (xs ys : List Row) → counted_rows q (placed_after m (xs ++ ys)) ≡ counted_rows q (placed_after m xs) ++ counted_rows q (placed_after (mark_after m xs) ys)
counted-append q m xs ys = ap (counted_rows q) (placed-append m xs ys) ∙ filter-append (is_counted q) (placed_after m xs) (placed_after (mark_after m xs) ys)

pub panes_join : (q : Tree) (m : Mark) (xs ys : List Row) → panes_here q m (xs ++ ys) ≡ both merge (panes_here q m xs) (panes_here q (mark_after m xs) ys)
panes_join q m xs ys = ap (panes_in q) (counted-append q m xs ys) ∙ panes-append q (counted_rows q (placed_after m xs)) (counted_rows q (placed_after (mark_after m xs) ys))
