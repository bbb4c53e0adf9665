-- An input, whose end counts as one arrival more: marks at its positions, and the parts between them.
use Rattle.std.proofs.Common.{◌≡◌, ℕ, ◌-◌, ◌≤◌, ◌<◌, List, [], ◌∷◌, ◌++◌, filter, min, length, take, drop, slice_range, Bool, true, false, ◌&&◌, nat_lt, refl, sym, ◌∙◌, ap, subst, length-take, take-take, le_trans, zero-le, ⊎_elim, arith}
use Rattle.std.proofs.lemmas.List.{take_all, length-drop}
use Rattle.std.proofs.lemmas.Bool.{ltb-true, both_ways, cases_lt}
use Rattle.std.proofs.lemmas.Bool.Decides.{nat_tests}
use Rattle.saber_plan.specs.declared.rows.Row.{Row}
use Rattle.saber_plan.specs.declared.windows.Mark.{Mark}
use Rattle.saber_plan.specs.Trees.{Tree}
use Rattle.saber_plan.specs.Inputs.{Input, first_arrivals}
use Rattle.saber_plan.specs.Windows.{Frame, Fits, no_rows, step_mark, mark_after, mark_of, end_mark, mark_at, begun, closed, begun_count, closed_count, has, Ordered, place, placed_from_start, inside}
use Rattle.saber_plan.specs.Answers.{by_shape, frame, lines, window_answers, passing_values}
use Rattle.saber_plan.specs.Parts.{no_part, part, part_lines, part_answers, row_part, group_part, pair_part, join_numbers, merge}
use Rattle.saber_plan.specs.Facts.Lists.{Each, each-filter, slice-join, slice-front, nothing_behind}
use Rattle.saber_plan.specs.Facts.Maps.{both_empty_right}
use Rattle.saber_plan.specs.Facts.Parts.{total, exact, merge-empty_right}
use Rattle.saber_plan.specs.Facts.Rows.{mark-append, length-placed}
use Rattle.saber_laws.proofs.WindowLaws.{begun_ending, begun_count_ending, closed_ending, ends_close_more, closed_stay, begun_stay, closed_after}
use Rattle.saber_laws.proofs.RowLaws.{take-placed, Ordered-slice}
use Rattle.saber_laws.proofs.PartLaws.{group_part-empty}
use Rattle.saber_laws.proofs.PairLaws.{pair_part-none, placed_below}
use Rattle.saber_laws.proofs.RowPartLaws.{row_part-nil}
use Rattle.saber_laws.proofs.ShareLaws.{part-join, part-not_begun, part-closed, part-take, part_has_lines, answers_whole, shaped}

-- ---- the marks of an input

-- rows behind a mark, with the end or without
pub after_ending : (e : Bool) (m : Mark) (xs : List Row) → mark_after (end_mark e m) xs ≡ end_mark e (mark_after m xs)
after_ending e m [] = refl
after_ending e m (x ∷ xs) = after_ending e (step_mark m x) xs

ending_again : (d e : Bool) (m : Mark) → (d ≡ true → e ≡ true) → end_mark e (end_mark d m) ≡ end_mark e m
ending_again d true m h = refl
ending_again true false m h = absurd (both_ways _ refl (h refl))
ending_again false false m h = refl

ended_case : (b : Bool) (l x y : ℕ) → x ≤ y → (b && nat_lt l x) ≡ true → (b && nat_lt l y) ≡ true
ended_case true l x y a h = grind (arith, nat_tests)
ended_case false l x y a h = h

-- an end that has come is there at each later position
pub stays_ended : (r : Input) (x y : ℕ) → x ≤ y → (first_arrivals r x).ended ≡ true → (first_arrivals r y).ended ≡ true
stays_ended r x y a h = ended_case r.ended (length r.rows) x y a h

behind_case : (b : Bool) (l x : ℕ) → (b && nat_lt l x) ≡ true → l < x
behind_case true l x h = ltb-true l x h
behind_case false l x h = absurd (both_ways _ refl h)

-- and stands behind all rows
pub ends_are_behind : (r : Input) (x : ℕ) → (first_arrivals r x).ended ≡ true → length r.rows < x
ends_are_behind r x h = behind_case r.ended (length r.rows) x h

-- where it has not come, the mark is that of the rows
pub marks_are_of_rows : (r : Input) (x : ℕ) → (first_arrivals r x).ended ≡ false → mark_at r x ≡ mark_of (take x r.rows)
marks_are_of_rows r x e = ap (λ b. end_mark b (mark_of (take x r.rows))) e

pub marks_go_on : (xs : List Row) (x y : ℕ) → x ≤ y → mark_of (take y xs) ≡ mark_after (mark_of (take x xs)) (slice_range xs x y)
marks_go_on xs x y a = ap mark_of (sym (slice-front xs y) ∙ slice-join xs 0 x y zero-le a ∙ ap (λ l. l ++ slice_range xs x y) (slice-front xs x)) ∙ mark-append no_rows (take x xs) (slice_range xs x y)

-- the mark at a later position follows from that at an earlier one
pub marks_follow : (r : Input) (x y : ℕ) → x ≤ y → mark_at r y ≡ end_mark (first_arrivals r y).ended (mark_after (mark_at r x) (slice_range r.rows x y))
marks_follow r x y a =
    let d = (first_arrivals r x).ended in
    let e = (first_arrivals r y).ended in
    let m = mark_of (take x r.rows) in
    let between = slice_range r.rows x y in
    ap (end_mark e) (marks_go_on r.rows x y a) ∙ sym (ending_again d e (mark_after m between) (stays_ended r x y a)) ∙ sym (ap (end_mark e) (after_ending d m between))

same_end : (d e : Bool) → (d ≡ true → e ≡ true) → (e ≡ true → d ≡ true) → d ≡ e
same_end true e f g = sym (f refl)
same_end false true f g = g refl
same_end false false f g = refl

-- where the end came before, the rows alone make it
pub mark_next : (r : Input) (x y : ℕ) → x ≤ y → ((first_arrivals r y).ended ≡ true → (first_arrivals r x).ended ≡ true) → mark_after (mark_at r x) (slice_range r.rows x y) ≡ mark_at r y
mark_next r x y a k =
    let between = slice_range r.rows x y in
    let m = mark_of (take x r.rows) in
    after_ending (first_arrivals r x).ended m between ∙ ap (λ b. end_mark b (mark_after m between)) (same_end _ _ (stays_ended r x y a) k) ∙ sym (ap (end_mark (first_arrivals r y).ended) (marks_go_on r.rows x y a))

open_case : (b : Bool) (l x : ℕ) → x ≤ l → (b && nat_lt l x) ≡ false
open_case true l x h = grind (arith, nat_tests)
open_case false l x h = refl

-- it has not come at a position of a row
pub open_at : (r : Input) (x : ℕ) → x ≤ length r.rows → (first_arrivals r x).ended ≡ false
open_at r x h = open_case r.ended (length r.rows) x h

ordered_none : (m : Mark) (xs : List Row) → xs ≡ [] → Ordered m xs
unfolding Ordered
ordered_none m xs e = subst (Ordered m) (sym e) tt

-- the rows from there on follow it
pub ordered_on : (r : Input) (x y : ℕ) → Ordered no_rows r.rows → Ordered (mark_at r x) (slice_range r.rows x y)
ordered_on r x y o = elim ((first_arrivals r x).ended) as (λ b. (first_arrivals r x).ended ≡ b → Ordered (mark_at r x) (slice_range r.rows x y)) [
  | true ↦ λ e. ordered_none (mark_at r x) _ (nothing_behind r.rows x y (let far = ends_are_behind r x e in omega arith))
  | false ↦ λ e. subst (λ m. Ordered m (slice_range r.rows x y)) (sym (marks_are_of_rows r x e)) (Ordered-slice x y r.rows o)
] refl

-- ---- the counts along an input

pub closed_rise : (f : Frame) → Fits f → (r : Input) (x y : ℕ) → Ordered no_rows r.rows → x ≤ y → closed_count f (mark_at r x) ≤ closed_count f (mark_at r y)
closed_rise f w r x y o a = subst (λ m. closed_count f (mark_at r x) ≤ closed_count f m) (sym (marks_follow r x y a))
    (le_trans (closed_stay f w (mark_at r x) (slice_range r.rows x y) (ordered_on r x y o)) (ends_close_more f w (first_arrivals r y).ended (mark_after (mark_at r x) (slice_range r.rows x y))))

pub begun_rise : (f : Frame) → Fits f → (r : Input) (x y : ℕ) → Ordered no_rows r.rows → x ≤ y → begun_count f (mark_at r x) ≤ begun_count f (mark_at r y)
begun_rise f w r x y o a = subst (λ m. begun_count f (mark_at r x) ≤ m) (sym (ap (begun_count f) (marks_follow r x y a) ∙ begun_count_ending f (first_arrivals r y).ended (mark_after (mark_at r x) (slice_range r.rows x y))))
    (begun_stay f w (mark_at r x) (slice_range r.rows x y) (ordered_on r x y o))

pub closed_on : (f : Frame) → Fits f → (i : ℕ) (r : Input) (x y : ℕ) → Ordered no_rows r.rows → x ≤ y → closed f i (mark_at r x) ≡ true → closed f i (mark_at r y) ≡ true
closed_on f w i r x y o a h = ap (closed f i) (marks_follow r x y a) ∙ closed_ending f w i (first_arrivals r y).ended (mark_after (mark_at r x) (slice_range r.rows x y)) (closed_after f i (mark_at r x) (slice_range r.rows x y) (ordered_on r x y o) h)

-- ---- parts, at whatever positions

left_over : {A : Type 0} (l : List A) (x y : ℕ) → length l ≤ y → length (drop x l) ≤ y - x
left_over l x y h = let few = length-drop x l in omega arith

slice_whole : {A : Type 0} (l : List A) (x y z : ℕ) → length l ≤ y → length l ≤ z → slice_range l x y ≡ slice_range l x z
slice_whole l x y z h k = take_all (y - x) (drop x l) (left_over l x y h) ∙ sym (take_all (z - x) (drop x l) (left_over l x z k))

-- past the last row there is no more
pub part_whole : (q : Tree) (i : ℕ) (xs : List Row) (x y z : ℕ) → length xs ≤ y → length xs ≤ z → part q i xs x y ≡ part q i xs x z
part_whole q i xs x y z h k =
    let all : length (placed_from_start xs) ≡ length xs = length-placed no_rows xs in
    let rows = λ (v : ℕ). slice_whole (placed_from_start xs) v y z (omega arith) (omega arith) in
    λ j. by_shape q.shape (row_part q (filter (has (frame q) i) (rows x j))) (group_part q (passing_values q (filter (has (frame q) i) (rows x j)))) (pair_part q x (filter (has (frame q) i) (rows 0 j)))

inside_before : (f : Frame) (i : ℕ) (xs : List Row) (x y : ℕ) → length xs ≤ x → Each (λ p. place p < x) (inside f i xs 0 y)
inside_before f i xs x y h = each-filter (λ p. place p < x) (has f i) (slice_range (placed_from_start xs) 0 y) (subst (Each (λ p. place p < x)) (sym (slice-front (placed_from_start xs) y ∙ take-placed y no_rows xs)) (placed_below no_rows (take y xs) x (let few = length-take y xs in omega arith)))

pub part_behind : (q : Tree) (i : ℕ) (xs : List Row) (x y : ℕ) → length xs ≤ x → part q i xs x y ≡ no_part
part_behind q i xs x y h =
    let all : length (placed_from_start xs) ≡ length xs = length-placed no_rows xs in
    let none = ap (filter (has (frame q) i)) (nothing_behind (placed_from_start xs) x y (omega arith)) in
    shaped q.shape _ _ _ no_part (ap (row_part q) none ∙ row_part-nil q) (ap (λ l. group_part q (passing_values q l)) none ∙ group_part-empty q) (pair_part-none q x _ (inside_before (frame q) i xs x y h))

-- parts join at each position
pub parts_join : (q : Tree) (i : ℕ) (xs : List Row) (x y z : ℕ) → x ≤ y → y ≤ z → part q i xs x z ≡ merge (part q i xs x y) (part q i xs y z)
parts_join q i xs x y z a b = ⊎_elim
    (λ l. part_whole q i xs x z y (omega arith) (omega arith) ∙ sym (merge-empty_right (part q i xs x y)) ∙ sym (ap (merge (part q i xs x y)) (part_behind q i xs y z (omega arith))))
    (λ l. part-join q i xs x y z a b l)
    (cases_lt (length xs) y)

-- the part of the first y rows is that of all of them
pub part_upto : (q : Tree) (i : ℕ) (xs : List Row) (y : ℕ) → part q i (take y xs) 0 (length (take y xs)) ≡ part q i xs 0 y
part_upto q i xs y =
    let few = length-take y xs in
    part_whole q i (take y xs) 0 (length (take y xs)) y (omega arith) (omega arith) ∙ part-take q i xs 0 y y zero-le (omega arith)

-- and its lines are the window's
pub lines_upto : (q : Tree) (i : ℕ) (xs : List Row) (y : ℕ) → lines q i (take y xs) ≡ part_lines q i (part q i xs 0 y)
lines_upto q i xs y = part_has_lines q i (take y xs) ∙ ap (part_lines q i) (part_upto q i xs y)

-- a closed window gets nothing more
pub part_closed : (q : Tree) (i : ℕ) (r : Input) (x y : ℕ) → Ordered no_rows r.rows → x ≤ y → closed (frame q) i (mark_at r x) ≡ true → part q i r.rows x y ≡ no_part
part_closed q i r x y o a h = elim ((first_arrivals r x).ended) as (λ b. (first_arrivals r x).ended ≡ b → part q i r.rows x y ≡ no_part) [
  | true ↦ λ e. part_behind q i r.rows x y (let far = ends_are_behind r x e in omega arith)
  | false ↦ λ e. part-closed q i r.rows x y o a (sym (ap (closed (frame q) i) (marks_are_of_rows r x e)) ∙ h)
] refl

pub closed_lines_stay : (q : Tree) (i : ℕ) (r : Input) (x y : ℕ) → Ordered no_rows r.rows → x ≤ y → closed (frame q) i (mark_at r x) ≡ true → lines q i (take y r.rows) ≡ lines q i (take x r.rows)
closed_lines_stay q i r x y o a h = lines_upto q i r.rows y ∙ ap (part_lines q i) (parts_join q i r.rows 0 x y zero-le a ∙ ap (merge (part q i r.rows 0 x)) (part_closed q i r x y o a h) ∙ merge-empty_right (part q i r.rows 0 x)) ∙ sym (lines_upto q i r.rows x)

-- and so do its answers
pub answers_upto : (q : Tree) (i : ℕ) (xs : List Row) (y : ℕ) → window_answers q i (take y xs) ≡ part_answers q (part q i xs 0 y)
answers_upto q i xs y = answers_whole q i (take y xs) ∙ ap (part_answers q) (part_upto q i xs y)

pub answers_stay : (q : Tree) (i : ℕ) (r : Input) (x y : ℕ) → Ordered no_rows r.rows → x ≤ y → closed (frame q) i (mark_at r x) ≡ true → window_answers q i (take y r.rows) ≡ window_answers q i (take x r.rows)
answers_stay q i r x y o a h = answers_upto q i r.rows y ∙ ap (part_answers q) (parts_join q i r.rows 0 x y zero-le a ∙ ap (merge (part q i r.rows 0 x)) (part_closed q i r x y o a h) ∙ merge-empty_right (part q i r.rows 0 x)) ∙ sym (answers_upto q i r.rows x)

-- one that isn't begun has nothing yet
pub part_not_begun : (q : Tree) (i : ℕ) (r : Input) (y : ℕ) → Ordered no_rows r.rows → begun (frame q) i (mark_at r y) ≡ false → part q i r.rows 0 y ≡ no_part
part_not_begun q i r y o h = part-not_begun q i r.rows y o (sym (begun_ending (frame q) i (first_arrivals r y).ended (mark_of (take y r.rows))) ∙ h)

pub not_begun_part : (q : Tree) (i : ℕ) (r : Input) (x y : ℕ) → Ordered no_rows r.rows → x ≤ y → begun (frame q) i (mark_at r y) ≡ false → part q i r.rows x y ≡ no_part
not_begun_part q i r x y o a b = both_empty_right total join_numbers exact (part q i r.rows 0 x) (part q i r.rows x y) (sym (parts_join q i r.rows 0 x y zero-le a) ∙ part_not_begun q i r y o b)

-- ---- an input cut twice

cut_end : (b : Bool) (l x n : ℕ) → x ≤ n → (b && nat_lt l n) && nat_lt (min n l) x ≡ (b && nat_lt l x)
cut_end true l x n a = grind (arith, nat_tests)
cut_end false l x n a = refl

pub arrived_twice : (r : Input) (x n : ℕ) → x ≤ n → first_arrivals (first_arrivals r n) x ≡ first_arrivals r x
arrived_twice r x n a = λ j. record { rows = take-take x n r.rows a j; ended = (ap (λ l. (first_arrivals r n).ended && nat_lt l x) (length-take n r.rows) ∙ cut_end r.ended (length r.rows) x n a) j }
