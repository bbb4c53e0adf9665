-- Panes worked out by hand. The rows are `0,1,10` `1,1,20` `2,2,5` `2,1,7` `9,2,1`, of a time, a key and a number.
use Rattle.std.specs.Prelude.{◌≡◌, ℕ, List, [], ◌∷◌, map, length, Some, None, refl, pos}
use Rattle.saber_plan.specs.declared.rows.Row.{Row}
use Rattle.saber_plan.specs.declared.rows.Side.TheVariants.{Left}
use Rattle.saber_plan.specs.declared.plans.Aggregate.{Aggregate}
use Rattle.saber_plan.specs.declared.plans.Fold.TheVariants.{Sum}
use Rattle.saber_plan.specs.declared.plans.Shape.TheVariants.{Group}
use Rattle.saber_plan.specs.declared.windows.Measure.{Measure}
use Rattle.saber_plan.specs.declared.windows.Measure.TheVariants.{Rows, Range}
use Rattle.saber_plan.specs.Trees.{Tree}
use Rattle.saber_plan.specs.Checked.{lone}
use Rattle.saber_plan.specs.Windows.{no_rows, placed_after, from}
use Rattle.saber_plan.specs.Answers.{frame}
use Rattle.saber_panes.specs.Panes.{pane_of, first_pane, pane_count, counted_rows}

abbrev five : List Row
five = record { side = Left; values = pos 0 ∷ pos 1 ∷ pos 10 ∷ [] } ∷ record { side = Left; values = pos 1 ∷ pos 1 ∷ pos 20 ∷ [] } ∷ record { side = Left; values = pos 2 ∷ pos 2 ∷ pos 5 ∷ [] }
    ∷ record { side = Left; values = pos 2 ∷ pos 1 ∷ pos 7 ∷ [] } ∷ record { side = Left; values = pos 9 ∷ pos 2 ∷ pos 1 ∷ [] } ∷ []

-- groups by keys of their columns: what they gather, and which of their numbers are printed
abbrev over : Measure → ℕ → ℕ → List ℕ → List Aggregate → List ℕ → Tree
over measure size slide keys aggregates printed = record {
  shape = Group;
  streams = record { columns = 3; window = Some (record { measure = measure; size = size; slide = slide }) } ∷ [];
  aggregates = aggregates;
  items = map lone printed;
  keys = keys;
  predicate = None;
  partition = [];
  word = None;
}

-- COUNT(*), whose groups have no key
abbrev over_all : Measure → ℕ → ℕ → Tree
over_all measure size slide = over measure size slide [] [] (0 ∷ [])

-- COUNT(*) over ROWS 4 SLIDE 2: five rows are five steps, and a window is two
abbrev counts : Tree
counts = over_all Rows 4 2

rows_are_steps : length (counted_rows counts (placed_after no_rows five)) ≡ 5
unfolding placed_after
rows_are_steps = refl

window_of_two : pane_count (frame counts) ≡ 2
window_of_two = refl

panes_by_two : map (pane_of (frame counts)) (counted_rows counts (placed_after no_rows five)) ≡ 0 ∷ 0 ∷ 1 ∷ 1 ∷ 2 ∷ []
unfolding placed_after
panes_by_two = refl

-- g, SUM(v) over ROWS 3 SLIDE 1, by g: five steps and three
abbrev sums : Tree
sums = over Rows 3 1 (1 ∷ []) (record { fold = Sum; expr = lone 2 } ∷ []) (0 ∷ 2 ∷ [])

rows_are_steps_again : length (counted_rows sums (placed_after no_rows five)) ≡ 5
unfolding placed_after
rows_are_steps_again = refl

window_of_three : from (first_pane (frame sums) 2) (pane_count (frame sums)) ≡ 2 ∷ 3 ∷ 4 ∷ []
unfolding from
window_of_three = refl

-- ROWS 1 SLIDE 3: the rows between lie in no window, and have no pane
rows_between : map (pane_of (frame (over_all Rows 1 3))) (counted_rows (over_all Rows 1 3) (placed_after no_rows five)) ≡ 0 ∷ 3 ∷ []
unfolding placed_after
rows_between = refl

-- RANGE 6 SLIDE 4: panes of two seconds, three to a window
panes_of_time : map (pane_of (frame (over_all Range 6 4))) (counted_rows (over_all Range 6 4) (placed_after no_rows five)) ≡ 0 ∷ 0 ∷ 1 ∷ 1 ∷ 4 ∷ []
unfolding placed_after
panes_of_time = refl

three_of_time : from (first_pane (frame (over_all Range 6 4)) 1) (pane_count (frame (over_all Range 6 4))) ≡ 2 ∷ 3 ∷ 4 ∷ []
unfolding from
three_of_time = refl
