-- What expressions and predicates are worth.
use Rattle.std.specs.Prelude.{ℕ, List, get_or, fold, Bool, true, false, not, ◌&&◌, ◌||◌, if◌then◌else◌, Option, Some, None, ℤ, pos, neg_ℤ, ◌+ℤ◌, ◌*ℤ◌, int_lt, int_le}
use Rattle.saber_plan.specs.declared.rows.Side.{Side}
use Rattle.saber_plan.specs.declared.rows.Side.TheVariants.{Left, Right}
use Rattle.saber_plan.specs.declared.expressions.Factor.{Factor}
use Rattle.saber_plan.specs.declared.expressions.Factor.TheVariants.{Column, Constant}
use Rattle.saber_plan.specs.declared.expressions.Product.{Product}
use Rattle.saber_plan.specs.declared.predicates.Cmp.{Cmp}
use Rattle.saber_plan.specs.declared.predicates.Cmp.TheVariants.{Equal, Unequal, Less, AtMost, Greater, AtLeast}
use Rattle.saber_plan.specs.Trees.{Test, negated, one_of, compare, Both, no_more, both, Tests, no_other, either}

-- the number in a column of a left and a right row
abbrev pub column_of : List ℤ → List ℤ → Side → ℕ → ℤ
column_of left right Left k = get_or left k (pos 0)
column_of left right Right k = get_or right k (pos 0)

abbrev pub factor_value : (Side → ℕ → ℤ) → Factor → ℤ
factor_value at (Column side k) = at side k
factor_value at (Constant z) = z

abbrev pub signed_value : Bool → ℤ → ℤ
signed_value minus z = if minus then neg_ℤ z else z

abbrev pub product_value : (Side → ℕ → ℤ) → Product → ℤ
product_value at p = signed_value p.minus (fold (λ z f. z *ℤ factor_value at f) (pos 1) p.factors)

-- the value of an expression
unfoldable pub value_at : (Side → ℕ → ℤ) → List Product → ℤ
value_at at ps = fold (λ z p. z +ℤ product_value at p) (pos 0) ps

abbrev pub value : List Product → List ℤ → List ℤ → ℤ
value e left right = value_at (column_of left right) e

abbrev pub compares : Cmp → ℤ → ℤ → Bool
compares Equal x y = int_le x y && int_le y x
compares Unequal x y = not (int_le x y && int_le y x)
compares Less x y = int_lt x y
compares AtMost x y = int_le x y
compares Greater x y = int_lt y x
compares AtLeast x y = int_le y x

unfoldable mutual
  pub test_holds : (Side → ℕ → ℤ) → Test → Bool
  test_holds at (negated t) = not (test_holds at t)
  test_holds at (one_of ts) = some_holds at ts
  test_holds at (compare x c y) = compares c (value_at at x) (value_at at y)

  pub all_hold : (Side → ℕ → ℤ) → Both → Bool
  all_hold at no_more = true
  all_hold at (both t ts) = test_holds at t && all_hold at ts

  pub some_holds : (Side → ℕ → ℤ) → Tests → Bool
  some_holds at no_other = false
  some_holds at (either b bs) = all_hold at b || some_holds at bs

-- whether a pair of rows passes; without a predicate it does
abbrev pub passes : Option Tests → List ℤ → List ℤ → Bool
passes None left right = true
passes (Some ts) left right = some_holds (column_of left right) ts
