-- What a join's plan says of its rows and of its items.
use Rattle.std.proofs.Common.{◌≡◌, subst}
use Rattle.std.specs.List.{AllByRecursion}
use Rattle.saber_plan.specs.declared.rows.Side.TheVariants.{Left, Right}
use Rattle.saber_plan.specs.declared.rows.Row.{Row}
use Rattle.saber_plan.specs.declared.plans.Shape.TheVariants.{Join}
use Rattle.saber_plan.specs.Trees.{Tree}
use Rattle.saber_plan.specs.Checked.{ExprFits, IsChecked, ItemFits, group_width}
use Rattle.saber_eval.specs.Widths.{widths}
use Rattle.saber_eval.specs.Fitting.{PlanFits}
use Rattle.saber_eval.proofs.FittingLaws.{pair_fits}
use Rattle.saber_join.specs.Rows.{IsOn}

-- a pair of rows, which the plan fits
pub plan_fits : (q : Tree) (l r : Row) → IsChecked q → q.shape ≡ Join → IsOn q Left l → IsOn q Right r → PlanFits q (widths l.values r.values)
plan_fits q l r checked e h k = pair_fits q l r checked e h.row h.side k.row k.side

-- the items of a join, over a pair of its rows
pub items_fit : (q : Tree) (l r : Row) → IsChecked q → q.shape ≡ Join → IsOn q Left l → IsOn q Right r → AllByRecursion (ExprFits (widths l.values r.values)) q.items
items_fit q l r checked e h k = subst (λ s. AllByRecursion (ItemFits s (widths l.values r.values) (group_width q)) q.items) e (plan_fits q l r checked e h k).items
