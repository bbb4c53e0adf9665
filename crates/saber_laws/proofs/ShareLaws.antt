-- The parts of windows over positions of one list of rows.
use Rattle.std.proofs.Common.{◌≡◌, ℕ, ◌+◌, ◌≤◌, ◌<◌, List, [], ◌∷◌, ◌++◌, map, filter, length, take, slice_range, true, false, sym, ◌∙◌, ap, append-nil, length-take, length-take-le, zero-le, subst, arith}
use Rattle.std.proofs.lemmas.List.{map-append}
use Rattle.std.proofs.lemmas.List.Elements.{filter-append}
use Rattle.std.specs.FinMap.{entries}
use Rattle.saber_plan.specs.declared.rows.Row.{Row}
use Rattle.saber_plan.specs.declared.plans.Shape.{Shape}
use Rattle.saber_plan.specs.declared.plans.Shape.TheVariants.{Select, Group, Join}
use Rattle.saber_plan.specs.Trees.{Tree}
use Rattle.saber_plan.specs.Values.{passes}
use Rattle.saber_plan.specs.Windows.{Frame, no_rows, mark_of, has, begun, closed, Ordered, Placed, place, placed_from_start, inside}
use Rattle.saber_plan.specs.Answers.{passing_values, picked_rows, row_answers, groups, pairs, pair_answers, entries_in, entry_lines, by_shape, frame, lines, window_answers}
use Rattle.saber_plan.specs.Parts.{no_part, part, part_lines, part_answers, answers_in, group_answer, row_part, group_part, pair_part, merge}
use Rattle.saber_laws.proofs.PartLaws.{groups_join, group_part-empty, answers-group_part}
use Rattle.saber_laws.proofs.RowLaws.{inside-join, inside-take, inside-not_begun, inside-closed, slice-placed, take-placed}
use Rattle.saber_laws.proofs.RowPartLaws.{row_part-join, row_part-nil, answers-row_part}
use Rattle.saber_plan.specs.Facts.Lists.{Each, each-filter, each-weaker, slice-front}
use Rattle.saber_laws.proofs.PairLaws.{Rising, rising-filter, pair_part-join, pair_part-none, answers-pair_part, placed_from, placed_below, placed_rising, behind_after}

pub passing-append : (q : Tree) (us vs : List Placed) → passing_values q (us ++ vs) ≡ passing_values q us ++ passing_values q vs
passing-append q us vs = ap (filter (λ zs. passes q.predicate zs [])) (map-append (λ x. x.row.values) us vs) ∙ filter-append (λ zs. passes q.predicate zs []) (map (λ x. x.row.values) us) (map (λ x. x.row.values) vs)

-- ---- where the rows inside stand

length-cut : (xs : List Row) (y : ℕ) → 0 + length (take y xs) ≤ y
length-cut xs y = omega (arith, length-take y xs)

pub inside_below : (f : Frame) (i : ℕ) (xs : List Row) (y : ℕ) → Each (λ x. place x < y) (inside f i xs 0 y)
inside_below f i xs y = each-filter (λ x. place x < y) (has f i) (slice_range (placed_from_start xs) 0 y) (subst (Each (λ x. place x < y)) (sym (slice-front (placed_from_start xs) y ∙ take-placed y no_rows xs)) (placed_below no_rows (take y xs) y (length-cut xs y)))

each_back : {A : Type 0} (P : A → Type 0) (us vs : List A) → Each P (us ++ vs) → Each P vs
each_back P [] vs h = h
each_back P (u ∷ us) vs h = each_back P us vs h.1

inside_under : (f : Frame) (i : ℕ) (xs : List Row) (x y : ℕ) → x ≤ y → Each (λ r. place r < y) (inside f i xs x y)
inside_under f i xs x y a = each_back (λ r. place r < y) (inside f i xs 0 x) (inside f i xs x y) (subst (Each (λ r. place r < y)) (inside-join f i xs 0 x y (omega arith) a) (inside_below f i xs y))

inside_from : (f : Frame) (i : ℕ) (xs : List Row) (y z : ℕ) → y ≤ length xs → Each (λ x. y ≤ place x) (inside f i xs y z)
inside_from f i xs y z h =
    let at : 0 + length (take y xs) ≡ y = omega (arith, length-take-le y xs h) in
    each-filter (λ x. y ≤ place x) (has f i) (slice_range (placed_from_start xs) y z) (subst (Each (λ x. y ≤ place x)) (sym (slice-placed xs y z))
    (each-weaker _ _ (λ x p. omega (arith, behind_after no_rows (take y xs), at, p)) _ (placed_from (mark_of (take y xs)) (slice_range xs y z))))

pub inside_rising : (f : Frame) (i : ℕ) (xs : List Row) (y : ℕ) → Rising (inside f i xs 0 y)
inside_rising f i xs y = rising-filter (has f i) (slice_range (placed_from_start xs) 0 y) (subst Rising (sym (slice-front (placed_from_start xs) y ∙ take-placed y no_rows xs)) (placed_rising no_rows (take y xs)))

-- ---- parts

-- the part from x to z is the merge of that from x to y and that from y to z
pub part-join : (q : Tree) (i : ℕ) (xs : List Row) (x y z : ℕ) → x ≤ y → y ≤ z → y ≤ length xs → part q i xs x z ≡ merge (part q i xs x y) (part q i xs y z)
part-join q i xs x y z a b h =
    let f = frame q in
    let group : group_part q (passing_values q (inside f i xs x z)) ≡ merge (group_part q (passing_values q (inside f i xs x y))) (group_part q (passing_values q (inside f i xs y z))) =
    ap (λ l. group_part q (passing_values q l)) (inside-join f i xs x y z a b) ∙ ap (group_part q) (passing-append q (inside f i xs x y) (inside f i xs y z)) ∙ groups_join q (passing_values q (inside f i xs x y)) (passing_values q (inside f i xs y z)) in
    let rows : row_part q (inside f i xs x z) ≡ merge (row_part q (inside f i xs x y)) (row_part q (inside f i xs y z)) =
    ap (row_part q) (inside-join f i xs x y z a b) ∙ row_part-join q y (inside f i xs x y) (inside f i xs y z) (inside_under f i xs x y a) (inside_from f i xs y z h) in
    let cut : inside f i xs 0 z ≡ inside f i xs 0 y ++ inside f i xs y z = inside-join f i xs 0 y z (omega arith) b in
    let join : pair_part q x (inside f i xs 0 z) ≡ merge (pair_part q x (inside f i xs 0 y)) (pair_part q y (inside f i xs 0 z)) =
    ap (pair_part q x) cut ∙ pair_part-join q x y (inside f i xs 0 y) (inside f i xs y z) a (inside_below f i xs y) (inside_from f i xs y z h) ∙ ap (λ l. merge (pair_part q x (inside f i xs 0 y)) (pair_part q y l)) (sym cut) in
    elim (q.shape) as (λ s. by_shape s (row_part q (inside f i xs x z)) (group_part q (passing_values q (inside f i xs x z))) (pair_part q x (inside f i xs 0 z))
    ≡ merge (by_shape s (row_part q (inside f i xs x y)) (group_part q (passing_values q (inside f i xs x y))) (pair_part q x (inside f i xs 0 y))) (by_shape s (row_part q (inside f i xs y z)) (group_part q (passing_values q (inside f i xs y z))) (pair_part q y (inside f i xs 0 z)))) [
      | Select ↦ rows
      | Group ↦ group
      | Join ↦ join
    ]

pub shaped : {A : Type 0} (s : Shape) (a b c d : A) → a ≡ d → b ≡ d → c ≡ d → by_shape s a b c ≡ d
shaped Select a b c d e f g = e
shaped Group a b c d e f g = f
shaped Join a b c d e f g = g

pub pair_part-nil : (q : Tree) (n : ℕ) → pair_part q n [] ≡ no_part
pair_part-nil q n = pair_part-none q n [] tt

-- a window that isn't begun has the empty part
pub part-not_begun : (q : Tree) (i : ℕ) (xs : List Row) (y : ℕ) → Ordered no_rows xs → begun (frame q) i (mark_of (take y xs)) ≡ false → part q i xs 0 y ≡ no_part
part-not_begun q i xs y o h =
    let none = inside-not_begun (frame q) i xs y o h in
    shaped q.shape _ _ _ no_part (ap (row_part q) none ∙ row_part-nil q) (ap (λ l. group_part q (passing_values q l)) none ∙ group_part-empty q) (ap (pair_part q 0) none ∙ pair_part-nil q 0)

-- a window that is closed gets nothing from later rows
pub part-closed : (q : Tree) (i : ℕ) (xs : List Row) (x y : ℕ) → Ordered no_rows xs → x ≤ y → closed (frame q) i (mark_of (take x xs)) ≡ true → part q i xs x y ≡ no_part
part-closed q i xs x y o a h =
    let none = inside-closed (frame q) i xs x y o h in
    shaped q.shape _ _ _ no_part
    (ap (row_part q) none ∙ row_part-nil q)
    (ap (λ l. group_part q (passing_values q l)) none ∙ group_part-empty q)
    (ap (pair_part q x) (inside-join (frame q) i xs 0 x y (omega arith) a ∙ ap (λ l. inside (frame q) i xs 0 x ++ l) none ∙ append-nil _) ∙ pair_part-none q x _ (inside_below (frame q) i xs x))

-- a part looks at no later row
pub part-take : (q : Tree) (i : ℕ) (xs : List Row) (x y n : ℕ) → x ≤ y → y ≤ n → part q i (take n xs) x y ≡ part q i xs x y
part-take q i xs x y n a b = λ j. by_shape q.shape (row_part q (inside-take (frame q) i xs x y n a b j)) (group_part q (passing_values q (inside-take (frame q) i xs x y n a b j))) (pair_part q x (inside-take (frame q) i xs 0 y n zero-le b j))

-- its answers from the first row on are those of the groups or pairs of the window
pub answers-part : (q : Tree) (i : ℕ) (xs : List Row) (y : ℕ) → answers_in q (part q i xs 0 y) ≡ entries_in q (inside (frame q) i xs 0 y)
answers-part q i xs y =
    let rows = inside (frame q) i xs 0 y in
    elim (q.shape) as (λ s. map (group_answer s q.items) (entries (by_shape s (row_part q rows) (group_part q (passing_values q rows)) (pair_part q 0 rows))) ≡ by_shape s (picked_rows q (row_answers q) rows) (groups q (passing_values q rows)) (pairs q (pair_answers q) rows)) [
      | Select ↦ answers-row_part q rows (inside_rising (frame q) i xs y)
      | Group ↦ answers-group_part q (passing_values q rows)
      | Join ↦ answers-pair_part q rows (inside_rising (frame q) i xs y)
    ]

-- a window's lines are those of its part
pub part_has_lines : (q : Tree) (i : ℕ) (xs : List Row) → lines q i xs ≡ part_lines q i (part q i xs 0 (length xs))
unfolding lines
part_has_lines q i xs = ap (entry_lines i) (sym (answers-part q i xs (length xs)))

-- and so are its answers
pub answers_whole : (q : Tree) (i : ℕ) (xs : List Row) → window_answers q i xs ≡ part_answers q (part q i xs 0 (length xs))
answers_whole q i xs = ap (map (λ e. e.1)) (sym (answers-part q i xs (length xs)))
