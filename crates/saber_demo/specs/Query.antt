-- The query that is run over the generated rows.
use Rattle.std.specs.Prelude.{ℕ, List, [], ◌∷◌, Some, None, codes}
use Rattle.saber_plan.specs.declared.plans.Fold.TheVariants.{Sum}
use Rattle.saber_plan.specs.declared.plans.Shape.TheVariants.{Group}
use Rattle.saber_plan.specs.declared.windows.Measure.TheVariants.{Range}
use Rattle.saber_plan.specs.Trees.{Tree}
use Rattle.saber_plan.specs.Checked.{lone}

-- its text
abbrev pub demo_query : List ℕ
demo_query = codes "STREAM D(t,g,v); SELECT g, COUNT(*), SUM(v) FROM D [RANGE 8 SLIDE 4] GROUP BY g"

-- its plan: a group has g, how many rows, and SUM(v), and all are printed
abbrev pub demo_tree : Tree
demo_tree = record {
  shape = Group;
  streams = record { columns = 3; window = Some (record { measure = Range; size = 8; slide = 4 }) } ∷ [];
  aggregates = record { fold = Sum; expr = lone 2 } ∷ [];
  items = lone 0 ∷ lone 1 ∷ lone 2 ∷ [];
  keys = 1 ∷ [];
  predicate = None;
  partition = [];
  word = None;
}
