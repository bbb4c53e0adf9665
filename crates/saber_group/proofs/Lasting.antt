-- Which rows a window has: from the first that it has up to the first behind it.
use Rattle.std.proofs.Common.{◌≡◌, ℕ, ◌+◌, ◌-◌, ◌≤◌, ◌<◌, List, [], ◌∷◌, ◌++◌, filter, length, take, drop, slice_range, get_or, true, false, cond, ◌&&◌, nat_lt, sym, ◌∙◌, ap, subst, append-nil, take-append-drop, le_trans, arith}
use Rattle.std.proofs.lemmas.Bool.{le-ltb}
use Rattle.std.proofs.lemmas.List.{drop_more, take_all}
use Rattle.std.proofs.lemmas.List.Elements.{filter-append}
use Rattle.saber_plan.specs.declared.rows.Row.{Row}
use Rattle.saber_plan.specs.declared.windows.Mark.{Mark}
use Rattle.saber_plan.specs.declared.plans.Shape.TheVariants.{Group}
use Rattle.saber_plan.specs.Inputs.{going_on}
use Rattle.saber_plan.specs.Trees.{Tree}
use Rattle.saber_plan.specs.Values.{passes}
use Rattle.saber_plan.specs.Windows.{Frame, one, Fits, Ordered, no_rows, mark_of, mark_after, mark_at, placed_from_start, placed_after, has, begun, begun_count}
use Rattle.saber_plan.specs.Answers.{by_shape, frame, passing_values}
use Rattle.saber_plan.specs.Parts.{Part, part, group_part, pair_part, no_part, merge, row_part}
use Rattle.saber_plan.specs.Needs.{first_window}
use Rattle.saber_plan.specs.GivenRows.{RowsFit}
use Rattle.saber_plan.specs.Facts.Rows.{length-placed, placed-append, placed_more, fits_drop}
use Rattle.saber_laws.specs.Plans.{OneWindow}
use Rattle.saber_partial.specs.PartLaws.{OfRows}
use Rattle.saber_group.specs.SliceParts.{part_of}
use Rattle.saber_laws.proofs.WindowLaws.{begun_are_counted}
use Rattle.saber_laws.proofs.CutLaws.{no_rows_no_part, parts_lie_within}
use Rattle.saber_window.proofs.PastLaws.{past_have_none}
use Rattle.saber_laws.proofs.TaskLaws.{rows_add_to_groups}

-- ---- rows cut at a row

cut_rows : (f : Frame) (i : ℕ) (m : Mark) (xs : List Row) (k : ℕ) → filter (has f i) (placed_after m xs) ≡ filter (has f i) (placed_after m (take k xs)) ++ filter (has f i) (placed_after (mark_after m (take k xs)) (drop k xs))
cut_rows f i m xs k = ap (λ l. filter (has f i) (placed_after m l)) (sym (take-append-drop k xs)) ∙ ap (filter (has f i)) (placed-append m (take k xs) (drop k xs)) ∙ filter-append (has f i) (placed_after m (take k xs)) (placed_after (mark_after m (take k xs)) (drop k xs))

-- no row from there on
part_ends : (q : Tree) (i : ℕ) (m : Mark) (xs : List Row) (k : ℕ) → filter (has (frame q) i) (placed_after (mark_after m (take k xs)) (drop k xs)) ≡ [] → part_of q i m (take k xs) ≡ part_of q i m xs
part_ends q i m xs k e = ap (λ l. group_part q (passing_values q l)) (sym (append-nil _) ∙ ap (λ l. filter (has (frame q) i) (placed_after m (take k xs)) ++ l) (sym e) ∙ sym (cut_rows (frame q) i m xs k))

pub part_nil : (q : Tree) (i : ℕ) (m : Mark) → no_part ≡ part_of q i m []
unfolding placed_after
part_nil q i m = sym ((no_rows_no_part q).of_groups)

-- ---- a window that ends at a row has none of the rows from there on

window_fits : (q : Tree) (w : OneWindow q) → Fits (frame q) → Fits (one w.window.measure w.window.slide w.window.size)
window_fits q w fits = subst Fits w.has_frame fits

past_all : (q : Tree) → OneWindow q → Fits (frame q) → (i : ℕ) (m : Mark) (x : Row) (xs : List Row) → Ordered m (x ∷ xs) → nat_lt i (first_window (frame q) (record { row = x; before = m })) ≡ true → filter (has (frame q) i) (placed_after m (x ∷ xs)) ≡ []
past_all q w fits i m x xs o =
    subst (λ f. nat_lt i (first_window f (record { row = x; before = m })) ≡ true → filter (has f i) (placed_after m (x ∷ xs)) ≡ []) (sym w.has_frame)
    (past_have_none w.window.measure w.window.slide w.window.size (window_fits q w fits) i m x xs o)

none_after : (q : Tree) → OneWindow q → Fits (frame q) → (i : ℕ) (m : Mark) (xs : List Row) (k : ℕ) (x : Row) (n : Mark) → RowsFit q m xs → k < length xs → x ≡ get_or xs k x → n ≡ mark_after m (take k xs) → nat_lt i (first_window (frame q) (record { row = x; before = n })) ≡ true
    → filter (has (frame q) i) (placed_after (mark_after m (take k xs)) (drop k xs)) ≡ []
none_after q w u i m xs k x n o h e g l =
    let cut : drop k xs ≡ x ∷ drop (k + 1) xs = drop_more xs k x h ∙ ap (λ y. y ∷ drop (k + 1) xs) (sym e) in
    ap (λ l. filter (has (frame q) i) (placed_after (mark_after m (take k xs)) l)) cut
    ∙ past_all q w u i (mark_after m (take k xs)) x (drop (k + 1) xs) (subst (Ordered (mark_after m (take k xs))) cut (fits_drop q m xs k o).ordered) (ap (λ (b : Mark). nat_lt i (first_window (frame q) (record { row = x; before = b }))) (sym g) ∙ l)

pub ends_here : (q : Tree) → OneWindow q → Fits (frame q) → (i : ℕ) (m : Mark) (xs : List Row) (k : ℕ) (x : Row) (n : Mark) → RowsFit q m xs → k < length xs → x ≡ get_or xs k x → n ≡ mark_after m (take k xs) → nat_lt i (first_window (frame q) (record { row = x; before = n })) ≡ true → part_of q i m (take k xs) ≡ part_of q i m xs
ends_here q w u i m xs k x n o h e g l = part_ends q i m xs k (none_after q w u i m xs k x n o h e g l)

-- ---- the part of one window, row by row

pub row_joins : (q : Tree) (i : ℕ) (m : Mark) (xs : List Row) (k : ℕ) (x : Row) (n : Mark) → k < length xs → x ≡ get_or xs k x → n ≡ mark_after m (take k xs)
    → part_of q i m (take (k + 1) xs) ≡ cond (has (frame q) i (record { row = x; before = n }) && passes q.predicate x.values []) (merge (part_of q i m (take k xs)) (group_part q (x.values ∷ []))) (part_of q i m (take k xs))
row_joins q i m xs k x n h e g =
    ap (λ l. group_part q (passing_values q (filter (has (frame q) i) l))) (placed_more m xs k x h e) ∙ rows_add_to_groups q (placed_after m (take k xs)) i (record { row = x; before = mark_after m (take k xs) })
    ∙ ap (λ (b : Mark). cond (has (frame q) i (record { row = x; before = b }) && passes q.predicate x.values []) (merge (part_of q i m (take k xs)) (group_part q (x.values ∷ []))) (part_of q i m (take k xs))) (sym g)

-- fewer rows are few too
pub few_more : (q : Tree) (n k : ℕ) (p : Part) → n ≤ k → OfRows q n p → OfRows q k p
few_more q n k p h few = record { at = λ key a e. (le_trans (few.at key a e).0 h, (few.at key a e).1); keys = few.keys }

-- the part of a window over all rows
pub part_whole : (q : Tree) → q.shape ≡ Group → (i : ℕ) (xs : List Row) → part q i xs 0 (length xs) ≡ part_of q i no_rows xs
part_whole q e i xs =
    let long = length-placed no_rows xs in
    let all : slice_range (placed_from_start xs) 0 (length xs) ≡ placed_from_start xs = take_all (length xs - 0) (placed_from_start xs) (omega (arith, long)) in
    ap (λ s. by_shape s (row_part q (filter (has (frame q) i) (slice_range (placed_from_start xs) 0 (length xs)))) (group_part q (passing_values q (filter (has (frame q) i) (slice_range (placed_from_start xs) 0 (length xs))))) (pair_part q 0 (filter (has (frame q) i) (slice_range (placed_from_start xs) 0 (length xs))))) e
    ∙ ap (λ l. group_part q (passing_values q (filter (has (frame q) i) l))) all

-- rows lie in no window that they don't begin
pub none_begun_have : (q : Tree) → q.shape ≡ Group → Fits (frame q) → (xs : List Row) → Ordered no_rows xs → (i : ℕ) → begun_count (frame q) (mark_of xs) ≤ i → part_of q i no_rows xs ≡ no_part
none_begun_have q e fits xs order i low =
    let all : mark_at (going_on xs) (length xs) ≡ mark_of xs = ap mark_of (take_all (length xs) xs (omega arith)) in
    let not_yet : begun (frame q) i (mark_at (going_on xs) (length xs)) ≡ false = ap (begun (frame q) i) all ∙ sym (begun_are_counted (frame q) fits i (mark_of xs)) ∙ le-ltb i (begun_count (frame q) (mark_of xs)) low in
    sym (part_whole q e i xs) ∙ (parts_lie_within q i (going_on xs) 0 (length xs) order (omega arith)).not_begun not_yet
