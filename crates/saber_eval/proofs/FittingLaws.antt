-- A checked plan fits the rows of its streams.
use Rattle.std.proofs.Common.{◌≡◌, List, [], ◌∷◌, ℤ, length, refl, sym, ◌∙◌, ap, subst, subst₂}
use Rattle.saber_plan.specs.declared.rows.Side.{Side}
use Rattle.saber_plan.specs.declared.rows.Side.TheVariants.{Left, Right}
use Rattle.saber_plan.specs.declared.rows.Row.{Row}
use Rattle.saber_plan.specs.declared.windows.Stream.{Stream}
use Rattle.saber_plan.specs.declared.plans.Shape.TheVariants.{Select, Group, Join}
use Rattle.saber_plan.specs.Trees.{Tree}
use Rattle.saber_plan.specs.Rows.{RowFits}
use Rattle.saber_plan.specs.Checked.{IsChecked, StreamsFit, columns_on}
use Rattle.saber_plan.specs.GivenRows.{IsRowOf}
use Rattle.saber_plan.specs.Facts.Rows.{is_left}
use Rattle.saber_eval.specs.Widths.{widths}
use Rattle.saber_eval.specs.Fitting.{PlanFits, OneStreamFits, TwoStreamsFit}

checked : (q : Tree) → IsChecked q → PlanFits q (columns_on q.streams)
checked q h = record { predicate = h.predicate; items = h.items; aggregates = h.aggregates; keys = h.keys }

one_width : (s : Stream) (zs : List ℤ) → length zs ≡ s.columns → (side : Side) → columns_on (s ∷ []) side ≡ widths zs [] side
one_width s zs e Left = sym e
one_width s zs e Right = refl

two_widths : (s t : Stream) (xs ys : List ℤ) → length xs ≡ s.columns → length ys ≡ t.columns → (side : Side) → columns_on (s ∷ t ∷ []) side ≡ widths xs ys side
two_widths s t xs ys e f Left = sym e
two_widths s t xs ys e f Right = sym f

pub one_stream : OneStreamFits
one_stream q s r h e fit = subst (PlanFits q) (ap columns_on e ∙ (λ i side. one_width s r.values fit.count side i)) (checked q h)

pub two_streams : TwoStreamsFit
two_streams q s t left right h e fit fit2 = subst (PlanFits q) (ap columns_on e ∙ (λ i side. two_widths s t left.values right.values fit.count fit2.count side i)) (checked q h)

-- ---- each row of a plan of one stream

row_fits : (q : Tree) (s : Stream) (r : Row) → q.streams ≡ s ∷ [] → IsRowOf q r → RowFits Left s.columns r
row_fits q s r e h = subst₂ (λ side ss. RowFits side (columns_on ss side) r) (is_left q s e r h) e h.fits

group_case : (q : Tree) (r : Row) (ss : List Stream) → IsChecked q → q.streams ≡ ss → StreamsFit Group ss → IsRowOf q r → PlanFits q (widths r.values [])
group_case q r [] checked e f h = absurd f
group_case q r (s ∷ []) checked e f h = one_stream q s r checked e (row_fits q s r e h)
group_case q r (s ∷ t ∷ ts) checked e f h = absurd f

pub group_fits : (q : Tree) (r : Row) → IsChecked q → q.shape ≡ Group → IsRowOf q r → PlanFits q (widths r.values [])
group_fits q r checked e h = group_case q r q.streams checked refl (subst (λ s. StreamsFit s q.streams) e checked.streams) h

selection_case : (q : Tree) (r : Row) (ss : List Stream) → IsChecked q → q.streams ≡ ss → StreamsFit Select ss → IsRowOf q r → PlanFits q (widths r.values [])
selection_case q r [] checked e f h = absurd f
selection_case q r (s ∷ []) checked e f h = one_stream q s r checked e (row_fits q s r e h)
selection_case q r (s ∷ t ∷ ts) checked e f h = absurd f

pub selection_fits : (q : Tree) (r : Row) → IsChecked q → q.shape ≡ Select → IsRowOf q r → PlanFits q (widths r.values [])
selection_fits q r checked e h = selection_case q r q.streams checked refl (subst (λ s. StreamsFit s q.streams) e checked.streams) h

-- ---- each pair of one of two streams

side_fits : (q : Tree) (ss : List Stream) (side : Side) (r : Row) → q.streams ≡ ss → IsRowOf q r → r.side ≡ side → RowFits side (columns_on ss side) r
side_fits q ss side r e h on = subst₂ (λ s us. RowFits s (columns_on us s) r) on e h.fits

pair_case : (q : Tree) (l r : Row) (ss : List Stream) → IsChecked q → q.streams ≡ ss → StreamsFit Join ss → IsRowOf q l → l.side ≡ Left → IsRowOf q r → r.side ≡ Right → PlanFits q (widths l.values r.values)
pair_case q l r [] checked e f h a k b = absurd f
pair_case q l r (s ∷ []) checked e f h a k b = absurd f
pair_case q l r (s ∷ t ∷ []) checked e f h a k b = two_streams q s t l r checked e (side_fits q (s ∷ t ∷ []) Left l e h a) (side_fits q (s ∷ t ∷ []) Right r e k b)
pair_case q l r (s ∷ t ∷ u ∷ us) checked e f h a k b = absurd f

pub pair_fits : (q : Tree) (l r : Row) → IsChecked q → q.shape ≡ Join → IsRowOf q l → l.side ≡ Left → IsRowOf q r → r.side ≡ Right → PlanFits q (widths l.values r.values)
pair_fits q l r checked e h a k b = pair_case q l r q.streams checked refl (subst (λ s. StreamsFit s q.streams) e checked.streams) h a k b
