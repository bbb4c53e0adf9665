-- Rows with what is behind them, cut at positions.
use Rattle.std.proofs.Common.{◌≡◌, ℕ, zero, suc, ◌-◌, ◌≤◌, List, [], ◌∷◌, ◌++◌, filter, take, drop, slice_range, true, false, refl, sym, ◌∙◌, ap, subst, take-append-drop}
use Rattle.std.proofs.lemmas.List.Elements.{filter-append}
use Rattle.saber_plan.specs.declared.rows.Row.{Row}
use Rattle.saber_plan.specs.declared.windows.Mark.{Mark}
use Rattle.saber_plan.specs.Windows.{Frame, no_rows, step_mark, mark_after, mark_of, has, begun, closed, Ordered, placed_after, placed_from_start, inside}
use Rattle.saber_plan.specs.Facts.Lists.{slice-join, slice-take, slice-front}
use Rattle.saber_plan.specs.Facts.Rows.{Ordered-append}
use Rattle.saber_laws.proofs.WindowLaws.{not_begun_has_none, closed_has_none}

pub take-placed : (n : ℕ) (m : Mark) (xs : List Row) → take n (placed_after m xs) ≡ placed_after m (take n xs)
unfolding placed_after
take-placed zero m xs = refl
take-placed (suc n) m [] = refl
take-placed (suc n) m (x ∷ xs) = λ i. record { row = x; before = m } ∷ take-placed n (step_mark m x) xs i

pub drop-placed : (n : ℕ) (m : Mark) (xs : List Row) → drop n (placed_after m xs) ≡ placed_after (mark_after m (take n xs)) (drop n xs)
unfolding placed_after
drop-placed zero m xs = refl
drop-placed (suc n) m [] = refl
drop-placed (suc n) m (x ∷ xs) = drop-placed n (step_mark m x) xs

-- the rows of a cut, placed, are the placed rows of the cut
pub slice-placed : (xs : List Row) (x y : ℕ) → slice_range (placed_from_start xs) x y ≡ placed_after (mark_of (take x xs)) (slice_range xs x y)
slice-placed xs x y = ap (take (y - x)) (drop-placed x no_rows xs) ∙ take-placed (y - x) (mark_of (take x xs)) (drop x xs)

Ordered-cut : (m : Mark) (n : ℕ) (xs : List Row) → Ordered m xs → Ordered m (take n xs) × Ordered (mark_after m (take n xs)) (drop n xs)
Ordered-cut m n xs o = Ordered-append m (take n xs) (drop n xs) (subst (Ordered m) (sym (take-append-drop n xs)) o)

pub Ordered-take : (m : Mark) (n : ℕ) (xs : List Row) → Ordered m xs → Ordered m (take n xs)
Ordered-take m n xs o = (Ordered-cut m n xs o).0

pub Ordered-slice : (x y : ℕ) (xs : List Row) → Ordered no_rows xs → Ordered (mark_of (take x xs)) (slice_range xs x y)
Ordered-slice x y xs o = Ordered-take (mark_of (take x xs)) (y - x) (drop x xs) (Ordered-cut no_rows x xs o).1

-- ---- the rows of a window between positions

pub inside-join : (f : Frame) (i : ℕ) (xs : List Row) (x y z : ℕ) → x ≤ y → y ≤ z → inside f i xs x z ≡ inside f i xs x y ++ inside f i xs y z
inside-join f i xs x y z a b = ap (filter (has f i)) (slice-join (placed_from_start xs) x y z a b) ∙ filter-append (has f i) (slice_range (placed_from_start xs) x y) (slice_range (placed_from_start xs) y z)

pub inside-take : (f : Frame) (i : ℕ) (xs : List Row) (x y n : ℕ) → x ≤ y → y ≤ n → inside f i (take n xs) x y ≡ inside f i xs x y
inside-take f i xs x y n a b = ap (λ l. filter (has f i) (slice_range l x y)) (sym (take-placed n no_rows xs)) ∙ ap (filter (has f i)) (slice-take (placed_from_start xs) x y n a b)

-- a window that isn't begun has no row
pub inside-not_begun : (f : Frame) (i : ℕ) (xs : List Row) (y : ℕ) → Ordered no_rows xs → begun f i (mark_of (take y xs)) ≡ false → inside f i xs 0 y ≡ []
inside-not_begun f i xs y o h = ap (filter (has f i)) (slice-front (placed_from_start xs) y) ∙ ap (filter (has f i)) (take-placed y no_rows xs) ∙ not_begun_has_none f i no_rows (take y xs) (Ordered-take no_rows y xs o) h

-- a closed window gets no row
pub inside-closed : (f : Frame) (i : ℕ) (xs : List Row) (x y : ℕ) → Ordered no_rows xs → closed f i (mark_of (take x xs)) ≡ true → inside f i xs x y ≡ []
inside-closed f i xs x y o h = ap (filter (has f i)) (slice-placed xs x y) ∙ closed_has_none f i (mark_of (take x xs)) (slice_range xs x y) (Ordered-slice x y xs o) h
