-- Worked windows: which have a row, which are begun and closed, and what the rows of a task are for them.
use Rattle.std.specs.Prelude.{◌≡◌, ℕ, List, [], ◌∷◌, map, filter, true, Option, Some, None, pos, refl}
use Rattle.saber_plan.specs.declared.rows.Side.{Side}
use Rattle.saber_plan.specs.declared.rows.Side.TheVariants.{Left, Right}
use Rattle.saber_plan.specs.declared.windows.Kind.{Kind}
use Rattle.saber_plan.specs.declared.windows.Kind.TheVariants.{Opening, Closing, Pending, Complete}
use Rattle.saber_plan.specs.declared.windows.Mark.{Mark}
use Rattle.saber_plan.specs.declared.windows.Measure.TheVariants as measures
use Rattle.saber_plan.specs.Windows.{Frame, Placed, one, two, begun, closed, end_mark, from, has, kind_of, no_rows, spans}
use Rattle.saber_plan.specs.Needs.{free_of}

-- ---- points

abbrev windows_with : ℕ → ℕ → ℕ → List ℕ
windows_with slide size p = filter (λ i. spans slide size i p) (from 0 6)

overlapping : windows_with 1 3 4 ≡ 2 ∷ 3 ∷ 4 ∷ []
unfolding from
overlapping = refl

first_rows : windows_with 1 3 1 ≡ 0 ∷ 1 ∷ []
unfolding from
first_rows = refl

in_a_gap : windows_with 3 1 4 ≡ []
unfolding from
in_a_gap = refl

behind_gaps : windows_with 3 1 6 ≡ 2 ∷ []
unfolding from
behind_gaps = refl

-- ---- windows of 3 seconds, every 2: 0 to 2, 2 to 4, 4 to 6, 6 to 8, 8 to 10, 10 to 12

abbrev threes : Frame
threes = one measures.Range 2 3

-- behind four rows up to time 2, and a fifth one of time 9
abbrev at_two : Mark
at_two = record no_rows { left = 4; last = Some (pos 2) }

abbrev at_nine : Mark
at_nine = record no_rows { left = 5; last = Some (pos 9) }

abbrev at_end : Mark
at_end = end_mark true at_nine

abbrev kinds : Mark → Mark → List (Option Kind)
kinds before after = map (λ i. kind_of threes i before after) (from 0 6)

abbrev closed_behind : Frame → Mark → List ℕ
closed_behind f m = filter (λ i. closed f i m) (from 0 8)

abbrev begun_behind : Frame → Mark → List ℕ
begun_behind f m = filter (λ i. begun f i m) (from 0 8)

none_begun : begun_behind threes no_rows ≡ []
unfolding from
none_begun = refl

two_begun : begun_behind threes at_two ≡ 0 ∷ 1 ∷ []
unfolding from
two_begun = refl

none_closed : closed_behind threes at_two ≡ []
unfolding from
none_closed = refl

four_closed : closed_behind threes at_nine ≡ 0 ∷ 1 ∷ 2 ∷ 3 ∷ []
unfolding from
four_closed = refl

-- the end closes the fifth one
five_closed : closed_behind threes at_end ≡ 0 ∷ 1 ∷ 2 ∷ 3 ∷ 4 ∷ []
unfolding from
five_closed = refl

five_begun : begun_behind threes at_end ≡ 0 ∷ 1 ∷ 2 ∷ 3 ∷ 4 ∷ []
unfolding from
five_begun = refl

fifth_row : kinds at_two at_nine ≡ Some Closing ∷ Some Closing ∷ Some Complete ∷ Some Complete ∷ Some Opening ∷ None ∷ []
unfolding from
fifth_row = refl

-- window 1 has the time 2, and ends with 4
no_row_at_two : kinds at_two at_two ≡ Some Pending ∷ Some Pending ∷ None ∷ None ∷ None ∷ None ∷ []
unfolding from
no_row_at_two = refl

no_row_at_nine : kinds at_nine at_nine ≡ None ∷ None ∷ None ∷ None ∷ Some Pending ∷ None ∷ []
unfolding from
no_row_at_nine = refl

the_end : kinds at_nine at_end ≡ None ∷ None ∷ None ∷ None ∷ Some Closing ∷ None ∷ []
unfolding from
the_end = refl

nothing_behind : kinds at_end at_end ≡ None ∷ None ∷ None ∷ None ∷ None ∷ None ∷ []
unfolding from
nothing_behind = refl

-- ---- windows of two streams, behind 5 left rows and 3 right ones, the last of time 6

abbrev at_six : Mark
at_six = record no_rows { left = 5; right = 3; last = Some (pos 6) }

-- window 0 has the right rows 0 to 2, and window 4 the left row 4
abbrev by_rows : Frame
by_rows = two measures.Rows 1 2 3

closed_by_both : closed_behind by_rows at_six ≡ 0 ∷ []
unfolding from
closed_by_both = refl

begun_by_one : begun_behind by_rows at_six ≡ 0 ∷ 1 ∷ 2 ∷ 3 ∷ 4 ∷ []
unfolding from
begun_by_one = refl

-- window 0 has the right rows of times 0 to 4, window 1 those of 2 to 6, and window 3 begins with 6
abbrev by_time : Frame
by_time = two measures.Range 2 2 5

closed_by_time : closed_behind by_time at_six ≡ 0 ∷ []
unfolding from
closed_by_time = refl

begun_by_time : begun_behind by_time at_six ≡ 0 ∷ 1 ∷ 2 ∷ 3 ∷ []
unfolding from
begun_by_time = refl

-- ---- a row of time 4, behind 5 left rows and 2 right ones

abbrev row_at_four : Side → Placed
row_at_four s = record { row = record { side = s; values = pos 4 ∷ [] }; before = record no_rows { left = 5; right = 2; last = Some (pos 3) } }

abbrev windows_of : Frame → Side → List ℕ
windows_of f s = filter (λ i. has f i (row_at_four s)) (from 0 8)

by_its_time : windows_of threes Left ≡ 1 ∷ 2 ∷ []
unfolding from
by_its_time = refl

-- of one stream no window has a right row
no_right_row : windows_of threes Right ≡ []
unfolding from
no_right_row = refl

-- of each four rows one window has the first alone, and row 5 is in none
not_a_fourth : windows_of (one measures.Rows 4 1) Left ≡ []
unfolding from
not_a_fourth = refl

by_its_side : windows_of (two measures.Rows 1 1 2) Left ≡ 5 ∷ []
unfolding from
by_its_side = refl

by_the_other_side : windows_of (two measures.Rows 1 1 2) Right ≡ 1 ∷ 2 ∷ []
unfolding from
by_the_other_side = refl

-- ---- blocks 5, 6 and 7: rows in windows up to 3, in none, and up to 9; the first that is needed where so many windows are closed

abbrev needed : ℕ → ℕ
needed count = free_of 5 (Some 3 ∷ None ∷ Some 9 ∷ []) count

first_needed : map needed (0 ∷ 3 ∷ 4 ∷ 9 ∷ 10 ∷ []) ≡ 5 ∷ 5 ∷ 7 ∷ 7 ∷ 8 ∷ []
unfolding free_of
first_needed = refl
