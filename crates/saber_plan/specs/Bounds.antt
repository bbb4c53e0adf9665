-- Expressions that no row makes overflow.
use Rattle.std.specs.Prelude.{ℕ, ◌+◌, ◌*◌, ◌^◌, ◌≤◌, List, [], ◌∷◌, nat_abs}
use Rattle.saber_plan.specs.declared.expressions.Factor.{Factor}
use Rattle.saber_plan.specs.declared.expressions.Factor.TheVariants.{Column, Constant}
use Rattle.saber_plan.specs.declared.expressions.Product.{Product}

-- how great a factor can be, without its sign: a column has 64 bits (this project's rule)
abbrev pub factor_bound : Factor → ℕ
factor_bound (Column side k) = 2 ^ 63
factor_bound (Constant z) = nat_abs z

-- how great n times these factors can be
abbrev pub bound_after : ℕ → List Factor → ℕ
bound_after n [] = n
bound_after n (f ∷ fs) = bound_after (n * factor_bound f) fs

-- each running product stays small
abbrev pub ProductFits : ℕ → List Factor → Type 0
ProductFits n [] = Unit {0}
ProductFits n (f ∷ fs) = (n * factor_bound f ≤ 2 ^ 126) × ProductFits (n * factor_bound f) fs

-- and so does each running sum
abbrev pub SumFits : ℕ → List Product → Type 0
SumFits n [] = Unit {0}
SumFits n (p ∷ ps) = ProductFits 1 p.factors × (n + bound_after 1 p.factors ≤ 2 ^ 126) × SumFits (n + bound_after 1 p.factors) ps

-- how great n and these products together can be
abbrev pub sum_bound : ℕ → List Product → ℕ
sum_bound n [] = n
sum_bound n (p ∷ ps) = sum_bound (n + bound_after 1 p.factors) ps
