-- What a group query's plan says of its windows and of its rows.
use Rattle.std.proofs.Common.{◌≡◌, subst}
use Rattle.saber_plan.specs.declared.rows.Row.{Row}
use Rattle.saber_plan.specs.declared.rows.Side.TheVariants.{Left}
use Rattle.saber_plan.specs.declared.plans.Plan.{Plan}
use Rattle.saber_plan.specs.declared.plans.Shape.TheVariants.{Group}
use Rattle.saber_plan.specs.Trees.{Tree, tree_of}
use Rattle.saber_plan.specs.Rows.{RowFits}
use Rattle.saber_plan.specs.Windows.{Fits}
use Rattle.saber_plan.specs.Answers.{frame}
use Rattle.saber_plan.specs.Checked.{IsChecked, columns_on}
use Rattle.saber_plan.specs.GivenRows.{IsRowOf}
use Rattle.saber_plan.specs.Facts.Rows.{is_left}
use Rattle.saber_laws.specs.Plans.{OneWindow}
use Rattle.saber_laws.proofs.CheckedLaws.{checked_fit, groups_have_one_window}

-- ---- windows

-- it groups rows, and its stream has a window, which fits
pub record HasWindow (q : Tree) : Type 0 where
  pub group : q.shape ≡ Group
  pub window : OneWindow q
  pub fits : Fits (frame q)

-- so it is with the plan that its operators are over
pub has_window : {p : Plan} (q : Plan) → p ≡ q → IsChecked (tree_of p) → (tree_of p).shape ≡ Group → HasWindow (tree_of q)
has_window {p} q e checked group = subst (λ (r : Plan). HasWindow (tree_of r)) e (record {
  group = group;
  window = groups_have_one_window (tree_of p) checked group;
  fits = checked_fit (tree_of p) checked;
})

-- ---- rows

-- a row of the one stream
pub row_fits : (q : Tree) (r : Row) → IsChecked q → q.shape ≡ Group → IsRowOf q r → RowFits Left (columns_on q.streams Left) r
row_fits q r checked group h =
    let w = groups_have_one_window q checked group in
    subst (λ side. RowFits side (columns_on q.streams side) r) (is_left q w.stream w.streams r h) h.fits
