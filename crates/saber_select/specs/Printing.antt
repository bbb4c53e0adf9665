-- Lines of rows.
use Rattle.std.specs.Prelude.{ℕ, List, [], ℤ, if◌then◌else◌}
use Rattle.saber_plan.specs.Trees.{Tree}
use Rattle.saber_plan.specs.Values.{passes}
use Rattle.saber_plan.specs.Answers.{items_over, line}

-- the line of a row, if the row passes
abbrev pub row_text : Tree → List ℤ → List ℕ
row_text q zs = if passes q.predicate zs [] then line (items_over q.items zs []) else []
