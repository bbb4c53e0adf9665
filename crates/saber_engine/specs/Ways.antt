-- How a plan answers, by the operator that it wants, and the plan of an operator.
use Rattle.saber_plan.specs.declared.plans.Plan.{Plan}
use Rattle.saber_plan.specs.Answers as defined
use Rattle.saber_plan.specs.Trees.{Tree, tree_of}
use Rattle.saber_changes.specs.Counts.{change_of}
use Rattle.saber_fragment.specs.declared.one_of.OneOf.{OneOf}
use Rattle.saber_fragment.specs.Cases.{of_one}
use Rattle.saber_engine.specs.declared.ways.Way.{Way}
use Rattle.saber_engine.specs.declared.ways.Way.TheVariants.{Alike, ByList, Changing}

-- the definition's way
abbrev pub way_by : Way → defined.Way
way_by Alike = defined.alike
way_by ByList = defined.by_list
way_by (Changing change) = defined.by_change (change_of change)

-- the plan of an operator, of whichever kind
abbrev pub tree_by : OneOf (OneOf (OneOf Plan Plan) (OneOf Plan Plan)) Plan → Tree
tree_by op = of_one (of_one (of_one tree_of tree_of) (of_one tree_of tree_of)) tree_of op
