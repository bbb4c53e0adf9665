-- Two expressions, one over each side, that are equal in each pair that passes WHERE; and the key of a row by them.
use Rattle.std.specs.Prelude.{◌≡◌, ℕ, ◌-◌, ◌^◌, List, true, ◌||◌, if◌then◌else◌, Option, Some, None, ℤ, pos, neg_ℤ, int_lt}
use Rattle.std.specs.List.{AllByRecursion}
use Rattle.saber_plan.specs.declared.rows.Side.{Side}
use Rattle.saber_plan.specs.declared.rows.Side.TheVariants.{Left, Right}
use Rattle.saber_plan.specs.declared.rows.Row.{Row}
use Rattle.saber_plan.specs.declared.expressions.Factor.{Factor}
use Rattle.saber_plan.specs.declared.expressions.Factor.TheVariants.{Column, Constant}
use Rattle.saber_plan.specs.declared.expressions.Product.{Product}
use Rattle.saber_plan.specs.Trees.{Test, Both, Tests}
use Rattle.saber_plan.specs.Values.{value, column_of, test_holds, all_hold, passes}
use Rattle.saber_plan.specs.Checked.{ExprFits, TestFits, AllFit, PredicateFits}
use Rattle.saber_plan.specs.Windows.{by_side}
use Rattle.saber_eval.specs.Columns as alone

pub record Ends : Type 0 where
  pub left : List Product
  pub right : List Product

-- an expression has columns of one side alone
abbrev pub IsOf : Side → Factor → Type 0
IsOf s (Column t k) = t ≡ s
IsOf s (Constant z) = Unit {0}

abbrev pub Over : Side → List Product → Type 0
Over s ps = AllByRecursion (λ (p : Product). AllByRecursion (IsOf s) p.factors) ps

-- an expression is the column of this number alone
abbrev pub IsColumn : ℕ → List Product → Type 0
IsColumn k ps = (s : Side) × alone.IsColumn s k ps

-- they are equal where this holds of a left and a right row, and fit the columns that this fits
pub record Ties (Holds : List ℤ → List ℤ → Type 0) (Fits : (Side → ℕ) → Type 0) (e : Ends) : Type 0 where
  pub left : Over Left e.left
  pub right : Over Right e.right
  pub equal : (xs ys : List ℤ) → Holds xs ys → value e.left xs ys ≡ value e.right xs ys
  pub left_fits : (columns : Side → ℕ) → Fits columns → ExprFits columns e.left
  pub right_fits : (columns : Side → ℕ) → Fits columns → ExprFits columns e.right

-- those of one unit, of units joined by AND, and of WHERE
abbrev pub TiesTest : Test → Ends → Type 0
TiesTest t = Ties (λ xs ys. test_holds (column_of xs ys) t ≡ true) (λ columns. TestFits columns t)

abbrev pub TiesAll : Both → Ends → Type 0
TiesAll b = Ties (λ xs ys. all_hold (column_of xs ys) b ≡ true) (λ columns. AllFit columns b)

abbrev pub TiesPairs : Option Tests → Ends → Type 0
TiesPairs p = Ties (λ xs ys. passes p xs ys ≡ true) (λ columns. PredicateFits columns p)

abbrev pub CanTie : Option Tests → Option Ends → Type 0
CanTie p None = Unit {0}
CanTie p (Some e) = TiesPairs p e

-- a value in 64 bits, or 0
abbrev pub narrow : ℤ → ℤ
narrow z = if int_lt z (neg_ℤ (pos (2 ^ 63))) || int_lt (pos (2 ^ 63 - 1)) z then pos 0 else z

-- the key of a row: the value over it of its side's expression; without any, all rows have one key
abbrev pub key_in : Option Ends → Row → ℤ
key_in None r = pos 0
key_in (Some e) r = narrow (by_side r.side (value e.left r.values r.values) (value e.right r.values r.values))
