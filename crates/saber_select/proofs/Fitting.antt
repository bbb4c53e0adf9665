-- The items of a selection fit its rows.
use Rattle.std.proofs.Common.{◌≡◌, [], subst}
use Rattle.std.specs.List.{AllByRecursion}
use Rattle.saber_plan.specs.declared.rows.Row.{Row}
use Rattle.saber_plan.specs.declared.plans.Shape.TheVariants.{Select}
use Rattle.saber_plan.specs.Trees.{Tree}
use Rattle.saber_plan.specs.Checked.{ExprFits, IsChecked, ItemFits, group_width}
use Rattle.saber_plan.specs.GivenRows.{IsRowOf}
use Rattle.saber_eval.specs.Widths.{widths}
use Rattle.saber_eval.proofs.FittingLaws.{selection_fits}

pub items_fit : (q : Tree) (r : Row) → IsChecked q → q.shape ≡ Select → IsRowOf q r → AllByRecursion (ExprFits (widths r.values [])) q.items
items_fit q r checked select h = subst (λ s. AllByRecursion (ItemFits s (widths r.values []) (group_width q)) q.items) select (selection_fits q r checked select h).items
