-- One row after another, added to panes.
use Rattle.std.proofs.Common.{◌≡◌, ℕ, ◌+◌, ◌≤◌, ◌<◌, List, [], ◌∷◌, ◌++◌, length, take, drop, get_or, Bool, true, false, cond, ◌==◌, Option, Some, None, refl, sym, ◌∙◌, ap, subst, nat_cmp, take-append-drop, length-append, arith}
use Rattle.std.proofs.lemmas.Bool.Decides.{nat_tests}
use Rattle.std.proofs.lemmas.List.{length-map, take_all}
use Rattle.std.proofs.lemmas.List.Elements.{filter-append}
use Rattle.std.specs.Cmp.{nat_cmp_total}
use Rattle.std.specs.FinMap.{empty, get, from_entries, nat_cmp-IsAntisymmetric}
use Rattle.saber_plan.specs.declared.rows.Row.{Row}
use Rattle.saber_plan.specs.declared.windows.Mark.{Mark}
use Rattle.saber_plan.specs.Trees.{Tree}
use Rattle.saber_plan.specs.Windows.{Placed, placed_after, mark_after}
use Rattle.saber_plan.specs.Answers.{frame}
use Rattle.saber_plan.specs.Merges.{join, both}
use Rattle.saber_plan.specs.Parts.{Part, no_part, group_part, merge}
use Rattle.saber_plan.specs.Tasks.{Parts}
use Rattle.saber_plan.specs.Facts.Maps.{get-both, both-assoc, both-empty_right, take_one}
use Rattle.saber_partial.specs.Tallies.{CanMerge}
use Rattle.saber_partial.specs.PartLaws.{OfRows}
use Rattle.saber_panes.specs.Panes.{panes_in, pane_of, in_pane, is_counted, counted_rows, or_none, with_part, with_row_in, PanesOf, RowsRoom}
use Rattle.saber_partial.proofs.Counted.{groups_are_of_rows, none_of_rows, more_rows, small_merge, small_stay}
use Rattle.saber_plan.specs.Facts.Rows.{placed_more}
use Rattle.saber_plan.specs.Facts.Parts.{if_any}
use Rattle.saber_panes.proofs.PaneRows.{values_in, get-panes, panes-append, counted-append}
use Rattle.saber_laws.proofs.PartLaws.{merge_is_associative}

-- ---- one row

panes-none : (q : Tree) → panes_in q [] ≡ empty
unfolding panes_in
panes-none q = refl

itself_there : (j : ℕ) → (j == j) ≡ true
itself_there j = grind (arith, nat_tests)

panes-one : (q : Tree) (x : Placed) → panes_in q (x ∷ []) ≡ from_entries {R = nat_cmp} ((pane_of (frame q) x, group_part q (x.row.values ∷ [])) ∷ [])
unfolding panes_in
panes-one q x = ap (λ b. from_entries {R = nat_cmp} ((pane_of (frame q) x, group_part q (values_in (cond b (x ∷ []) []))) ∷ [])) (itself_there (pane_of (frame q) x))

with_one : (m : Parts) (j : ℕ) (p : Part) → with_part m j p ≡ both merge m (from_entries ((j, p) ∷ []))
with_one m j p = sym (both-empty_right nat_cmp_total merge nat_cmp-IsAntisymmetric (with_part m j p)) ∙ take_one nat_cmp_total nat_cmp-IsAntisymmetric merge m j p [] refl

with_case : (q : Tree) (m : Parts) (x : Placed) (b : Bool) → cond b (with_part m (pane_of (frame q) x) (group_part q (x.row.values ∷ []))) m ≡ both merge m (panes_in q (cond b (x ∷ []) []))
with_case q m x true = with_one m (pane_of (frame q) x) (group_part q (x.row.values ∷ [])) ∙ ap (both merge m) (sym (panes-one q x))
with_case q m x false = sym (ap (both merge m) (panes-none q) ∙ both-empty_right nat_cmp_total merge nat_cmp-IsAntisymmetric m)

-- a row more is its pane taken in
pub with_row_is : (q : Tree) (m : Parts) (x : Placed) → with_row_in q m x ≡ both merge m (panes_in q (counted_rows q (x ∷ [])))
with_row_is q m x = with_case q m x (is_counted q x)

-- ---- the rows so far

abbrev pub so_far : Tree → Mark → List Row → ℕ → List Placed
so_far q m xs k = counted_rows q (placed_after m (take k xs))

pub no_rows_yet : (q : Tree) (b : Mark) (xs : List Row) (m : Parts) → m ≡ both merge m (panes_in q (so_far q b xs 0))
unfolding placed_after
no_rows_yet q b xs m = sym (ap (both merge m) (panes-none q) ∙ both-empty_right nat_cmp_total merge nat_cmp-IsAntisymmetric m)

module _ (q : Tree) (m : Mark) (xs : List Row) (k : ℕ) (x : Row) (here : k < length xs) (is : x ≡ get_or xs k x) where
  abbrev at : Placed
  at = record { row = x; before = mark_after m (take k xs) }

  pub one_more : so_far q m xs (k + 1) ≡ so_far q m xs k ++ counted_rows q (record { row = x; before = mark_after m (take k xs) } ∷ [])
  one_more = ap (counted_rows q) (placed_more m xs k x here is) ∙ filter-append (is_counted q) (placed_after m (take k xs)) (at ∷ [])

  pub panes_more : (old : Parts)
      → with_row_in q (both merge old (panes_in q (so_far q m xs k))) (record { row = x; before = mark_after m (take k xs) }) ≡ both merge old (panes_in q (so_far q m xs (k + 1)))
  panes_more old =
      with_row_is q (both merge old (panes_in q (so_far q m xs k))) at
      ∙ both-assoc nat_cmp_total merge nat_cmp-IsAntisymmetric merge_is_associative old (panes_in q (so_far q m xs k)) (panes_in q (counted_rows q (at ∷ [])))
      ∙ ap (both merge old) (sym (panes-append q (so_far q m xs k) (counted_rows q (at ∷ []))) ∙ ap (panes_in q) (sym one_more))

  pub longer : length (so_far q m xs (k + 1)) ≡ length (so_far q m xs k) + length (counted_rows q (record { row = x; before = mark_after m (take k xs) } ∷ []))
  longer = ap length one_more ∙ length-append (so_far q m xs k) (counted_rows q (at ∷ []))

-- the rows of the first k are among all
pub front_all : (q : Tree) (m : Mark) (xs : List Row) (k : ℕ) → length (so_far q m xs k) ≤ length (counted_rows q (placed_after m xs))
front_all q m xs k =
    let rest = counted_rows q (placed_after (mark_after m (take k xs)) (drop k xs)) in
    let whole : counted_rows q (placed_after m xs) ≡ so_far q m xs k ++ rest = ap (λ l. counted_rows q (placed_after m l)) (sym (take-append-drop k xs)) ∙ counted-append q m (take k xs) (drop k xs) in
    let long = ap length whole ∙ length-append (so_far q m xs k) rest in
    omega (arith, long)

pub all_taken : (q : Tree) (m : Mark) (xs : List Row) (k : ℕ) → length xs ≤ k → so_far q m xs k ≡ counted_rows q (placed_after m xs)
all_taken q m xs k l = ap (λ ys. counted_rows q (placed_after m ys)) (take_all k xs l)

-- ---- that there is room

of_any : (q : Tree) (l : List Placed) (p : Part) → if_any l (group_part q (values_in l)) ≡ Some p → OfRows q (length l) p
of_any q [] p e = cc
of_any q (x ∷ l) p e =
    let same : group_part q (values_in (x ∷ l)) ≡ p = cc in
    let long = length-map (x ∷ l) (λ (y : Placed). y.row.values) in
    subst (OfRows q (length (x ∷ l))) same (subst (λ n. OfRows q n (group_part q (values_in (x ∷ l)))) long (groups_are_of_rows q (values_in (x ∷ l))))

-- panes of rows are of the rows in them
pub panes_are_of_rows : (q : Tree) (us : List Placed) → PanesOf q (λ j. length (in_pane q j us)) (panes_in q us)
panes_are_of_rows q us = record { at = λ j p e. of_any q (in_pane q j us) p (sym (get-panes q us j) ∙ e) }

of_join : (q : Tree) (n k : ℕ) (o p : Option Part) → ((a : Part) → o ≡ Some a → OfRows q n a) → ((a : Part) → p ≡ Some a → OfRows q k a) → OfRows q (n + k) (or_none (join merge o p))
of_join q n k None None g h = more_rows q 0 (n + k) no_part (omega arith) (none_of_rows q)
of_join q n k None (Some b) g h = more_rows q k (n + k) b (omega arith) (h b refl)
of_join q n k (Some a) None g h = more_rows q n (n + k) a (omega arith) (g a refl)
of_join q n k (Some a) (Some b) g h = small_stay q n k a b (g a refl) (h b refl)

pub of_both : (q : Tree) (c d : ℕ → ℕ) (m n : Parts) → PanesOf q c m → PanesOf q d n → (j : ℕ) → OfRows q (c j + d j) (or_none (get (both merge m n) j))
of_both q c d m n g h j = subst (λ o. OfRows q (c j + d j) (or_none o)) (sym (get-both nat_cmp_total merge m n j)) (of_join q (c j) (d j) (get m j) (get n j) (g.at j) (h.at j))

counted_one : (q : Tree) (x : Placed) → is_counted q x ≡ true → counted_rows q (x ∷ []) ≡ x ∷ []
counted_one q x e = ap (λ b. cond b (x ∷ []) []) e

in_one : (q : Tree) (x : Placed) → length (in_pane q (pane_of (frame q) x) (x ∷ [])) ≡ 1
in_one q x = ap (λ b. length (cond b (x ∷ []) [])) (itself_there (pane_of (frame q) x))

-- the rows of the first k are among all
front_short : (q : Tree) (j : ℕ) (m : Mark) (xs : List Row) (k : ℕ) → length (in_pane q j (so_far q m xs k)) ≤ length (in_pane q j (counted_rows q (placed_after m xs)))
front_short q j m xs k =
    let rest = counted_rows q (placed_after (mark_after m (take k xs)) (drop k xs)) in
    let whole : counted_rows q (placed_after m xs) ≡ so_far q m xs k ++ rest = ap (λ l. counted_rows q (placed_after m l)) (sym (take-append-drop k xs)) ∙ counted-append q m (take k xs) (drop k xs) in
    let long = ap (λ l. length (in_pane q j l)) whole ∙ ap length (filter-append (λ (x : Placed). j == pane_of (frame q) x) (so_far q m xs k) rest) ∙ length-append (in_pane q j (so_far q m xs k)) (in_pane q j rest) in
    omega (arith, long)

pub room_for_row : (q : Tree) (m : Mark) (xs : List Row) (k : ℕ) (x : Row) → k < length xs → x ≡ get_or xs k x → (old : Parts) → RowsRoom q old (counted_rows q (placed_after m xs))
    → is_counted q (record { row = x; before = mark_after m (take k xs) }) ≡ true
    → CanMerge (or_none (get (both merge old (panes_in q (so_far q m xs k))) (pane_of (frame q) (record { row = x; before = mark_after m (take k xs) })))) (group_part q (x.values ∷ []))
room_for_row q m xs k x here is old room e =
    let at : Placed = record { row = x; before = mark_after m (take k xs) } in
    let j = pane_of (frame q) at in
    let us = so_far q m xs k in
    let mine = of_both q room.has (λ j. length (in_pane q j us)) old (panes_in q us) room.panes (panes_are_of_rows q us) j in
    let more : length (in_pane q j (so_far q m xs (k + 1))) ≡ length (in_pane q j us) + 1 =
    ap (λ l. length (in_pane q j l)) (one_more q m xs k x here is ∙ ap (λ l. us ++ l) (counted_one q at e)) ∙ ap length (filter-append (λ (y : Placed). j == pane_of (frame q) y) us (at ∷ [])) ∙ length-append (in_pane q j us) (in_pane q j (at ∷ [])) ∙ ap (λ n. length (in_pane q j us) + n) (in_one q at) in
    let front = front_short q j m xs (k + 1) in
    let few = room.few j in
    small_merge q (room.has j + length (in_pane q j us)) 1 _ (group_part q (x.values ∷ [])) mine (groups_are_of_rows q (x.values ∷ [])) (omega (arith, more, front, few))
