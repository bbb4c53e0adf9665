-- What aggregates want to know of rows, and how they take it in.
use Rattle.std.specs.Prelude.{ℕ, ◌^◌, ◌≤◌, ◌<◌, List, [], ◌∷◌, length, map, get_or, ℤ, pos, ◌+ℤ◌, neg_ℤ, ◌≤ℤ◌, ◌<ℤ◌}
use Rattle.saber_plan.specs.declared.plans.Fold.{Fold}
use Rattle.saber_plan.specs.declared.plans.Fold.TheVariants.{Sum, Min, Max, First}
use Rattle.saber_plan.specs.declared.plans.Aggregate.{Aggregate}
use Rattle.saber_plan.specs.declared.expressions.Product.{Product}
use Rattle.saber_plan.specs.Values.{value}
use Rattle.saber_plan.specs.Bounds.{sum_bound}
use Rattle.saber_plan.specs.Checked.{ExprFits}
use Rattle.saber_plan.specs.Answers.{step}
use Rattle.saber_plan.specs.Parts.{Number}
use Rattle.saber_eval.specs.Widths.{widths}
use Rattle.saber_partial.specs.Tallies.{SumWithin}

-- how the aggregates of a plan go on
abbrev pub plan_folds : List Aggregate → List Fold
plan_folds gs = map (λ g. g.fold) gs

-- the values of their expressions over a row
abbrev pub values_over : List ℤ → List Aggregate → List ℤ
values_over zs gs = map (λ g. value g.expr zs []) gs

-- numbers, each with that of later rows
abbrev pub stepped_numbers : List Fold → List ℤ → List ℤ → List ℤ
stepped_numbers [] xs ys = []
stepped_numbers (f ∷ fs) [] ys = []
stepped_numbers (f ∷ fs) (x ∷ xs) [] = []
stepped_numbers (f ∷ fs) (x ∷ xs) (y ∷ ys) = step f x y ∷ stepped_numbers fs xs ys

-- a number of 128 bits
abbrev pub Fits128 : ℤ → Type 0
Fits128 z = (neg_ℤ (pos (2 ^ 127)) ≤ℤ z) × (z <ℤ pos (2 ^ 127))

-- a number and that of later rows are one of 128 bits, as the least and the greatest are
abbrev pub FitsStep : Fold → ℤ → ℤ → Type 0
FitsStep Sum x y = Fits128 (x +ℤ y)
FitsStep Min x y = Unit {0}
FitsStep Max x y = Unit {0}
FitsStep First x y = Unit {0}

abbrev pub StepsFit : List Fold → List ℤ → List ℤ → Type 0
StepsFit fs xs ys = (k : ℕ) → k < length xs → FitsStep (get_or fs k Sum) (get_or xs k (pos 0)) (get_or ys k (pos 0))

-- a sum of at most 2^40 rows has room for one row more
abbrev pub HasRoom : Number → Type 0
HasRoom v = SumWithin (2 ^ 126) v.fold v.value

-- a row adds at most 2^86 to a sum
abbrev pub IsSmall : Number → Type 0
IsSmall v = SumWithin (2 ^ 86) v.fold v.value

abbrev pub AddsLittle : Fold → List Product → Type 0
AddsLittle Sum e = sum_bound 0 e ≤ 2 ^ 86
AddsLittle Min e = Unit {0}
AddsLittle Max e = Unit {0}
AddsLittle First e = Unit {0}

-- an aggregate can be worked out over a row
abbrev pub CanCount : List ℤ → Aggregate → Type 0
CanCount zs g = ExprFits (widths zs []) g.expr × AddsLittle g.fold g.expr
