-- The rows found of a window are its part, and their lines and answers those of that part.
use Rattle.std.proofs.Common.{◌≡◌, ℕ, zero, suc, ◌+◌, ◌-◌, ◌≤◌, ◌<◌, List, [], ◌∷◌, map, filter, length, take, drop, slice_range, pos, refl, sym, ◌∙◌, ap, subst₂, arith, length-take}
use Rattle.std.proofs.lemmas.List.{length-drop}
use Rattle.std.proofs.lemmas.List.Folds.{flat_map-map}
use Rattle.std.proofs.lemmas.Simd.{map-map}
use Rattle.std.specs.FinMap.{from_entries}
use Rattle.saber_plan.specs.declared.rows.Row.{Row}
use Rattle.saber_plan.specs.declared.windows.Mark.{Mark}
use Rattle.saber_plan.specs.declared.expressions.Product.{Product}
use Rattle.saber_plan.specs.declared.plans.Shape.TheVariants.{Select}
use Rattle.saber_plan.specs.Trees.{Tree}
use Rattle.saber_plan.specs.Values.{passes}
use Rattle.saber_plan.specs.Windows.{Placed, place, has, inside, placed_after, step_mark, mark_after, mark_of, no_rows}
use Rattle.saber_plan.specs.Answers.{Entry, key_cmp, line, frame, by_shape, passing_values}
use Rattle.saber_plan.specs.Parts.{part, row_part, group_part, pair_part, part_lines, part_answers, answers_in, group_answer}
use Rattle.saber_plan.specs.GivenRows.{AreNeighbors}
use Rattle.saber_plan.specs.Facts.Lists.{each-filter}
use Rattle.saber_select.specs.Found.{Found, found_row, found_of, Rises, Precedes, entry_of, part_of, values_in, lines_for}
use Rattle.saber_select.proofs.Finding.{behind, behind_after, placed_below, placed_from, found_each, Rising, rising-filter, placed_rising, found_rises}
use Rattle.saber_select.proofs.Keyed.{values_back, entries_part, same_rows}

-- ---- the part of rows

pub rows_part : (q : Tree) (us : List Placed) → part_of (found_of q us) ≡ row_part q us
unfolding row_part
rows_part q us = ap (from_entries {R = key_cmp}) (map-map entry_of (found_row q) (filter (λ (x : Placed). passes q.predicate x.row.values []) us))

-- ---- what is printed of it

answered_rows : (is : List (List Product)) (es : List Found) → values_in es ≡ map (λ (e : Entry). e.1) (map (group_answer Select is) (map entry_of es))
answered_rows is [] = refl
answered_rows is (e ∷ es) = λ j. sym (values_back e.1) j ∷ answered_rows is es j

-- the answers and the lines of rows that rise are those of their part
pub answers_of_part : (q : Tree) → q.shape ≡ Select → (es : List Found) → Rises es → values_in es ≡ part_answers q (part_of es)
answers_of_part q e es r = answered_rows q.items es ∙ (λ j. map (λ (e : Entry). e.1) (map (group_answer (sym e j) q.items) (sym (entries_part es r) j)))

pub lines_of_part : (q : Tree) → q.shape ≡ Select → (i : ℕ) (es : List Found) → Rises es → lines_for i (values_in es) ≡ part_lines q i (part_of es)
lines_of_part q e i es r = ap (lines_for i) (answers_of_part q e es r) ∙ flat_map-map (λ zs. line (pos i ∷ zs)) (λ (e : Entry). e.1) (answers_in q (part_of es))

-- ---- the rows of an input from one position up to another

drop_placed : (m : Mark) (xs : List Row) (x : ℕ) → drop x (placed_after m xs) ≡ placed_after (mark_after m (take x xs)) (drop x xs)
unfolding placed_after
drop_placed m xs zero = refl
drop_placed m [] (suc x) = refl
drop_placed m (y ∷ xs) (suc x) = drop_placed (step_mark m y) xs x

take_placed : (m : Mark) (xs : List Row) (y : ℕ) → take y (placed_after m xs) ≡ placed_after m (take y xs)
unfolding placed_after
take_placed m xs zero = refl
take_placed m [] (suc y) = refl
take_placed m (x ∷ xs) (suc y) = ap (λ l. record { row = x; before = m } ∷ l) (take_placed (step_mark m x) xs y)

-- the rows of window i
abbrev rows_between : Tree → ℕ → List Row → ℕ → ℕ → List Placed
rows_between q i xs x y = filter (has (frame q) i) (placed_after (mark_of (take x xs)) (slice_range xs x y))

inside_is : (q : Tree) (i : ℕ) (xs : List Row) (x y : ℕ) → inside (frame q) i xs x y ≡ rows_between q i xs x y
inside_is q i xs x y = ap (filter (has (frame q) i)) (ap (take (y - x)) (drop_placed no_rows xs x) ∙ take_placed (mark_of (take x xs)) (drop x xs) (y - x))

between_rises : (q : Tree) (i : ℕ) (xs : List Row) (x y : ℕ) → Rising (rows_between q i xs x y)
between_rises q i xs x y = rising-filter (has (frame q) i) _ (placed_rising (mark_of (take x xs)) (slice_range xs x y))

part_is : (q : Tree) → q.shape ≡ Select → (i : ℕ) (xs : List Row) (x y : ℕ) → part q i xs x y ≡ part_of (found_of q (rows_between q i xs x y))
part_is q e i xs x y =
    ap (λ s. by_shape s (row_part q (inside (frame q) i xs x y)) (group_part q (passing_values q (inside (frame q) i xs x y))) (pair_part q x (inside (frame q) i xs 0 y))) e
    ∙ ap (row_part q) (inside_is q i xs x y) ∙ sym (rows_part q (rows_between q i xs x y))

-- rows whose part is that of a window are those found of it
rows_are : (q : Tree) → q.shape ≡ Select → (i : ℕ) (xs : List Row) (x y : ℕ) (es : List Found) → Rises es → part_of es ≡ part q i xs x y → es ≡ found_of q (rows_between q i xs x y)
rows_are q e i xs x y es r h = same_rows es (found_of q (rows_between q i xs x y)) r (found_rises q (rows_between q i xs x y) (between_rises q i xs x y)) (h ∙ part_is q e i xs x y)

-- ---- the rows of parts that follow one another

few_between : (xs : List Row) (x y : ℕ) → x ≤ y → length (take x xs) + length (slice_range xs x y) ≤ length (take y xs)
few_between xs x y h =
    let first = length-take x xs in
    let second = length-take y xs in
    let rest = length-take (y - x) (drop x xs) in
    let all = length-drop x xs in
    omega (arith, h, first, second, rest, all)

pub neighbors_precede : (q : Tree) → q.shape ≡ Select → (a b : List Found) → Rises a → Rises b → AreNeighbors q (part_of a) (part_of b) → Precedes a b
neighbors_precede q e a b r s n =
    let seam = behind (mark_of (take n.seam n.rows)) in
    let here = behind_after no_rows (take n.seam n.rows) in
    let there = behind_after no_rows (take n.from n.rows) in
    let few = few_between n.rows n.from n.seam n.rises in
    let below = placed_below (mark_of (take n.from n.rows)) (slice_range n.rows n.from n.seam) seam (omega (arith, here, there, few)) in
    let from = placed_from (mark_of (take n.seam n.rows)) (slice_range n.rows n.seam n.to) seam (omega arith) in
    subst₂ Precedes (sym (rows_are q e n.window n.rows n.from n.seam a r n.first)) (sym (rows_are q e n.window n.rows n.seam n.to b s n.second)) (record {
      seam = seam;
      before = found_each (λ (f : Found). f.0 < seam) q (rows_between q n.window n.rows n.from n.seam) (each-filter (λ (x : Placed). place x < seam) (has (frame q) n.window) _ below);
      behind = found_each (λ (f : Found). seam ≤ f.0) q (rows_between q n.window n.rows n.seam n.to) (each-filter (λ (x : Placed). seam ≤ place x) (has (frame q) n.window) _ from);
    })
