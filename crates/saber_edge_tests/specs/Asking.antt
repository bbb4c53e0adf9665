-- What the query of a test is.
use Rattle.std.specs.Prelude.{◌≡◌, []}
use Rattle.saber_plan.specs.declared.rows.Side.TheVariants.{Left}
use Rattle.saber_plan.specs.declared.plans.Plan.{Plan}
use Rattle.saber_plan.specs.declared.plans.Shape.TheVariants.{Group}
use Rattle.saber_plan.specs.Trees.{tree_of}
use Rattle.saber_plan.specs.Checked.{IsChecked, columns_on}

-- a checked group query over one stream of three columns, without PARTITION BY
abbrev pub IsOfThree : Plan → Type 0
IsOfThree p = IsChecked (tree_of p) × ((tree_of p).shape ≡ Group) × (columns_on (tree_of p).streams Left ≡ 3) × ((tree_of p).partition ≡ [])
