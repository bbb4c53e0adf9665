-- Files and queries that the worked cases share.
use Rattle.std.specs.Prelude.{ℕ, ◌^◌, List, [], ◌∷◌, map, Some, None, codes, pos, false}
use Rattle.saber_plan.specs.declared.rows.Side.TheVariants.{Left, Right}
use Rattle.saber_plan.specs.declared.rows.Row.{Row}
use Rattle.saber_plan.specs.declared.plans.Aggregate.{Aggregate}
use Rattle.saber_plan.specs.declared.plans.Fold.{Fold}
use Rattle.saber_plan.specs.declared.plans.Fold.TheVariants.{Sum}
use Rattle.saber_plan.specs.declared.plans.Shape.TheVariants.{Group, Join}
use Rattle.saber_plan.specs.declared.expressions.Factor.TheVariants.{Column, Constant}
use Rattle.saber_plan.specs.declared.expressions.Product.{Product}
use Rattle.saber_plan.specs.declared.windows.Measure.{Measure}
use Rattle.saber_plan.specs.declared.windows.Measure.TheVariants as measures
use Rattle.saber_plan.specs.declared.predicates.Cmp.TheVariants.{Greater, Less}
use Rattle.saber_plan.specs.Checked.{lone}
use Rattle.saber_plan.specs.Trees.{Tree, Tests, either, both, no_more, no_other, compare}
use Rattle.saber_plan.specs.Rows.{SideRules, most_held, rows}

-- five rows of three columns t, g, v
abbrev pub five_lines : List ℕ
five_lines = codes "0,1,10\n1,1,20\n2,2,5\n2,1,7\n9,2,1\n"

abbrev pub left_of : ℕ → SideRules
left_of columns = record { side = Left; columns = columns; most = 2 ^ 40; slack = 0; room = most_held }

abbrev pub right_of : ℕ → SideRules
right_of columns = record { side = Right; columns = columns; most = 2 ^ 40; slack = 0; room = most_held }

abbrev pub rows_in : List ℕ → List Row
rows_in bytes = (rows (left_of 3) bytes).rows

-- a column of the right row by itself
abbrev pub right_column : ℕ → List Product
right_column k = record { minus = false; factors = Column Right k ∷ [] } ∷ []

abbrev pub over : Fold → ℕ → Aggregate
over f k = record { fold = f; expr = lone k }

-- groups by keys of their columns: what they gather, and which of their numbers are printed
abbrev pub grouped : Measure → ℕ → ℕ → List ℕ → List Aggregate → List ℕ → Tree
grouped m size slide keys aggregates printed = record {
  shape = Group;
  streams = record { columns = 3; window = Some (record { measure = m; size = size; slide = slide }) } ∷ [];
  aggregates = aggregates;
  items = map lone printed;
  keys = keys;
  predicate = None;
  partition = [];
  word = None;
}

-- SELECT COUNT(*), whose groups have no key
abbrev pub counted : Measure → ℕ → ℕ → Tree
counted m size slide = grouped m size slide [] [] (0 ∷ [])

-- SELECT g, SUM(v) FROM S [ROWS 3 SLIDE 1] GROUP BY g
abbrev pub sums_by_group : Tree
sums_by_group = grouped measures.Rows 3 1 (1 ∷ []) (over Sum 2 ∷ []) (0 ∷ 2 ∷ [])

-- v > n
abbrev pub above : ℕ → Tests
above n = either (both (compare (lone 2) Greater (record { minus = false; factors = Constant (pos n) ∷ [] } ∷ [])) no_more) no_other

-- SELECT x, y FROM A, B WHERE x < y, where both have a time and one column more
abbrev pub joining : Measure → ℕ → ℕ → ℕ → Tree
joining m left right slide = record {
  shape = Join;
  keys = [];
  partition = [];
  word = None;
  predicate = Some (either (both (compare (lone 1) Less (right_column 1)) no_more) no_other);
  aggregates = [];
  items = lone 1 ∷ right_column 1 ∷ [];
  streams = record { columns = 2; window = Some (record { measure = m; size = left; slide = slide }) } ∷ record { columns = 2; window = Some (record { measure = m; size = right; slide = slide }) } ∷ [];
}
