-- What one row gives.
use Rattle.std.proofs.Common.{◌≡◌, ◌<◌, [], ◌∷◌, length, false, cond, sym, ◌∙◌, ap, subst}
use Rattle.std.specs.List.{AllByRecursion}
use Rattle.saber_plan.specs.declared.rows.Row.{Row}
use Rattle.saber_plan.specs.declared.plans.Shape.TheVariants.{Group}
use Rattle.saber_plan.specs.declared.rows.Side.TheVariants.{Left}
use Rattle.saber_plan.specs.Trees.{Tree}
use Rattle.saber_plan.specs.Rows.{RowFits}
use Rattle.saber_plan.specs.Checked.{IsChecked, columns_on}
use Rattle.saber_plan.specs.GivenRows.{IsRowOf}
use Rattle.saber_plan.specs.Values.{passes}
use Rattle.saber_plan.specs.Parts.{no_part, group_part}
use Rattle.saber_plan.specs.Facts.Lists.{all_weaker}
use Rattle.saber_plan.specs.Facts.Rows.{is_left}
use Rattle.saber_partition.specs.Streams.{Asks, row_part}
use Rattle.saber_laws.proofs.CheckedLaws.{groups_have_one_window}
use Rattle.saber_laws.proofs.CutLaws.{no_rows_no_part}

-- a row of the one stream
pub row_fits : (q : Tree) (r : Row) → IsChecked q → q.shape ≡ Group → IsRowOf q r → RowFits Left (columns_on q.streams Left) r
row_fits q r checked group h =
    let w = groups_have_one_window q checked group in
    subst (λ s. RowFits s (columns_on q.streams s) r) (is_left q w.stream w.streams r h) h.fits

module _ (q : Tree) (a : Asks q) (r : Row) (is : IsRowOf q r) where
  -- the columns of its key list are there
  pub lists_there : AllByRecursion (λ k. k < length r.values) q.partition
  lists_there = all_weaker (λ k. k < columns_on q.streams Left) (λ k. k < length r.values) (λ k h. subst (λ n. k < n) (sym (row_fits q r a.checked a.group is).count) h) q.partition a.checked.lists

pub failing_part : (q : Tree) (r : Row) → passes q.predicate r.values [] ≡ false → no_part ≡ row_part q r
failing_part q r e = sym (no_rows_no_part q).of_groups ∙ ap (λ b. group_part q (cond b (r.values ∷ []) [])) (sym e)
