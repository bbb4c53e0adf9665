-- A row of a checked group query's stream can be counted.
use Rattle.std.proofs.Common.{◌≡◌, ℕ, List, [], ◌∷◌, length, ℤ, refl, sym, subst}
use Rattle.std.specs.List.{AllByRecursion}
use Rattle.saber_plan.specs.declared.rows.Side.{Side}
use Rattle.saber_plan.specs.declared.rows.Side.TheVariants.{Left, Right}
use Rattle.saber_plan.specs.declared.expressions.Product.{Product}
use Rattle.saber_plan.specs.declared.plans.Aggregate.{Aggregate}
use Rattle.saber_plan.specs.declared.plans.Fold.{Fold}
use Rattle.saber_plan.specs.declared.plans.Fold.TheVariants.{Sum, Min, Max, First}
use Rattle.saber_plan.specs.declared.plans.Shape.TheVariants.{Group}
use Rattle.saber_plan.specs.declared.windows.Stream.{Stream}
use Rattle.saber_plan.specs.Trees.{Tree}
use Rattle.saber_plan.specs.Checked.{AggregateFits, AggregatesFit, FoldFits, IsChecked, StreamsFit, ItemFits, columns_on, group_width}
use Rattle.saber_eval.specs.Widths.{widths}
use Rattle.saber_partial.specs.Gathering.{AddsLittle, CanCount}
use Rattle.saber_partial.specs.Printing.{IsLone}

-- the one stream's columns are those of its rows
width_of : (ss : List Stream) → StreamsFit Group ss → (zs : List ℤ) → length zs ≡ columns_on ss Left → (side : Side) → columns_on ss side ≡ widths zs [] side
width_of [] f zs h side = absurd f
width_of (s ∷ []) f zs h Left = sym h
width_of (s ∷ []) f zs h Right = refl
width_of (s ∷ t ∷ ts) f zs h side = absurd f

adds_little : (partition : List ℕ) (f : Fold) (e : List Product) → FoldFits partition f e → AddsLittle f e
adds_little partition Sum e h = h
adds_little partition Min e h = tt
adds_little partition Max e h = tt
adds_little partition First e h = tt

can_count : (zs : List ℤ) (partition : List ℕ) (gs : List Aggregate) → AllByRecursion (AggregateFits (widths zs []) partition) gs → AllByRecursion (CanCount zs) gs
can_count zs partition [] h = tt
can_count zs partition (g ∷ gs) h = ((h.0.0, adds_little partition g.fold g.expr h.0.1), can_count zs partition gs h.1)

pub aggregates_count : (q : Tree) → IsChecked q → q.shape ≡ Group → (zs : List ℤ) → length zs ≡ columns_on q.streams Left → AllByRecursion (CanCount zs) q.aggregates
aggregates_count q k g zs h =
    let wide : columns_on q.streams ≡ widths zs [] = λ i side. width_of q.streams (subst (λ s. StreamsFit s q.streams) g k.streams) zs h side i in
    can_count zs q.partition q.aggregates (subst (λ w. AllByRecursion (AggregateFits w q.partition) q.aggregates) wide (subst (λ s. AggregatesFit s (columns_on q.streams) q.partition q.aggregates) g k.aggregates))

-- its items are numbers of a group
lone_each : (columns : Side → ℕ) (width : ℕ) (is : List (List Product)) → AllByRecursion (ItemFits Group columns width) is → AllByRecursion IsLone is
lone_each columns width [] h = tt
lone_each columns width (i ∷ is) h = ((h.0.0, h.0.1), lone_each columns width is h.1)

pub items_are_lone : (q : Tree) → IsChecked q → q.shape ≡ Group → AllByRecursion IsLone q.items
items_are_lone q k g = lone_each (columns_on q.streams) (group_width q) q.items (subst (λ s. AllByRecursion (ItemFits s (columns_on q.streams) (group_width q)) q.items) g k.items)
