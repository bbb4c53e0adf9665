-- That callers meet what panes ask.
use Rattle.std.proofs.Common.{◌≡◌, ℕ, zero, suc, ◌+◌, ◌≤◌, ◌^◌, List, [], ◌∷◌, filter, length, Bool, true, false, cond, ◌||◌, ◌==◌, refl, ◌∙◌, ap, arith}
use Rattle.std.specs.List.{sum_by}
use Rattle.std.proofs.lemmas.Bool.{both_ways}
use Rattle.std.proofs.lemmas.Bool.Decides.{nat_tests}
use Rattle.saber_plan.specs.declared.rows.Row.{Row}
use Rattle.saber_plan.specs.declared.windows.Mark.{Mark}
use Rattle.saber_plan.specs.Trees.{Tree}
use Rattle.saber_plan.specs.Windows.{Placed, placed_after, mark_after, from}
use Rattle.saber_plan.specs.Answers.{frame}
use Rattle.saber_plan.specs.Parts.{no_part}
use Rattle.saber_plan.specs.Tasks.{Parts}
use Rattle.saber_plan.specs.Facts.Lists.{few_pass}
use Rattle.saber_plan.specs.Facts.Rows.{length-placed}
use Rattle.saber_panes.specs.Panes.{panes_here, pane_of, in_pane, is_counted, counted_rows, first_pane, pane_count, PanesOf, CanTakeIn, RowsRoom, WindowRoom}
use Rattle.saber_partial.proofs.Counted.{none_of_rows, small_merge}
use Rattle.saber_panes.proofs.PaneWindows.{within}
use Rattle.saber_panes.proofs.PaneMerging.{from-none, from-first, sum_first}
use Rattle.saber_panes.proofs.PaneFolding.{panes_are_of_rows}

few_in : (q : Tree) (j : ℕ) (m : Mark) (xs : List Row) → length (in_pane q j (counted_rows q (placed_after m xs))) ≤ length xs
few_in q j m xs =
    let a = few_pass (λ (x : Placed). j == pane_of (frame q) x) (counted_rows q (placed_after m xs)) in
    let b = few_pass (is_counted q) (placed_after m xs) in
    let c = length-placed m xs in
    omega (arith, a, b, c)

pub rows_have_room : (q : Tree) (m : Mark) (xs ys : List Row) → length xs + length ys ≤ 2 ^ 40 → RowsRoom q (panes_here q m xs) (counted_rows q (placed_after (mark_after m xs) ys))
rows_have_room q m xs ys l = record {
  has = λ j. length (in_pane q j (counted_rows q (placed_after m xs)));
  panes = panes_are_of_rows q (counted_rows q (placed_after m xs));
  few = λ j. let a = few_in q j m xs in let b = few_in q j (mark_after m xs) ys in omega (arith, a, b, l);
}

pub panes_can_join : (q : Tree) (m : Mark) (xs ys : List Row) → length xs + length ys ≤ 2 ^ 40 → CanTakeIn (panes_here q m xs) (panes_here q (mark_after m xs) ys)
panes_can_join q m xs ys l = record {
  at = λ j a b e f.
      let n = mark_after m xs in
      let low = few_in q j m xs in
      let high = few_in q j n ys in
      small_merge q (length (in_pane q j (counted_rows q (placed_after m xs)))) (length (in_pane q j (counted_rows q (placed_after n ys)))) a b
      ((panes_are_of_rows q (counted_rows q (placed_after m xs))).at j a e) ((panes_are_of_rows q (counted_rows q (placed_after n ys))).at j b f) (omega (arith, low, high, l));
}

-- ---- the rows of a window's panes are no more than all

split_long : {X : Type 0} (x : X) (l k r : List X) (t u : Bool) → (t ≡ true → u ≡ false) → length l ≡ length k + length r → length (cond (t || u) (x ∷ l) l) ≡ length (cond t (x ∷ k) k) + length (cond u (x ∷ r) r)
split_long x l k r true true n e = absurd (both_ways true (n refl) refl)
split_long x l k r true false n e = omega (arith, e)
split_long x l k r false true n e = omega (arith, e)
split_long x l k r false false n e = e

lengths_within : {X : Type 0} (p : X → ℕ) (a n : ℕ) (xs : List X) → length (filter (within p a (suc n)) xs) ≡ length (filter (λ x. a == p x) xs) + length (filter (within p (a + 1) n) xs)
lengths_within p a n [] = refl
lengths_within p a n (x ∷ xs) =
    let both_tests : within p a (suc n) x ≡ ((a == p x) || within p (a + 1) n x) = grind (arith, nat_tests) in
    ap (λ b. length (cond b (x ∷ filter (within p a (suc n)) xs) (filter (within p a (suc n)) xs))) both_tests
    ∙ split_long x (filter (within p a (suc n)) xs) (filter (λ x. a == p x) xs) (filter (within p (a + 1) n) xs) (a == p x) (within p (a + 1) n x) (λ e. grind (arith, nat_tests)) (lengths_within p a n xs)

rows_within : (q : Tree) (us : List Placed) (a n : ℕ) → sum_by (λ j. length (in_pane q j us)) (from a n) ≤ length (filter (within (pane_of (frame q)) a n) us)
rows_within q us a zero = let none = ap (sum_by (λ j. length (in_pane q j us))) (from-none a) in omega (arith, none)
rows_within q us a (suc n) =
    let cut = ap (sum_by (λ j. length (in_pane q j us))) (from-first a n) ∙ sum_first (λ j. length (in_pane q j us)) a (from (a + 1) n) in
    let more = lengths_within (pane_of (frame q)) a n us in
    let rest = rows_within q us (a + 1) n in
    omega (arith, cut, more, rest)

pub windows_have_room : (q : Tree) (i : ℕ) (us : List Placed) (m : Parts) → PanesOf q (λ j. length (in_pane q j us)) m → length us ≤ 2 ^ 40 → WindowRoom q i m no_part
windows_have_room q i us m g l = record {
  has = λ j. length (in_pane q j us);
  own = 0;
  panes = g;
  part = none_of_rows q;
  few =
      let a = rows_within q us (first_pane (frame q) i) (pane_count (frame q)) in
      let b = few_pass (within (pane_of (frame q)) (first_pane (frame q) i) (pane_count (frame q))) us in
      omega (arith, a, b, l);
}
