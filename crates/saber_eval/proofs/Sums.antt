-- Sums, one product after another.
use Rattle.std.proofs.Common.{◌≡◌, ℕ, ◌+◌, ◌^◌, ◌≤◌, List, [], ◌∷◌, length, get_or, fold, ℤ, pos, Bool, false, ◌+ℤ◌, ◌*ℤ◌, nat_abs, refl, ◌∙◌, ap, sym, arith}
use Rattle.std.proofs.Math.IntN.{+ℤ_idl, suc_ℤ-*ℤ, zero-*ℤ}
use Rattle.std.specs.List.{AllByRecursion}
use Rattle.saber_plan.specs.declared.rows.Side.{Side}
use Rattle.saber_plan.specs.declared.expressions.Factor.{Factor}
use Rattle.saber_plan.specs.declared.expressions.Product.{Product}
use Rattle.saber_plan.specs.Values.{factor_value, signed_value, product_value, value_at}
use Rattle.saber_plan.specs.Bounds.{SumFits, sum_bound}
use Rattle.saber_plan.specs.Checked.{HasColumn, ExprFits}

abbrev pub sum_all : (Side → ℕ → ℤ) → ℤ → List Product → ℤ
sum_all at z ps = fold (λ z p. z +ℤ product_value at p) z ps

abbrev pub There : (Side → ℕ) → List Product → Type 0
There columns ps = AllByRecursion (λ (p : Product). AllByRecursion (HasColumn columns) p.factors) ps

-- the sum so far, and the rest, is the value, and has room
pub record Summed (at : Side → ℕ → ℤ) (columns : Side → ℕ) (all : List Product) (z : ℤ) (rest : List Product) : Type 0 where
  pub value : sum_all at z rest ≡ value_at at all
  pub most : ℕ
  pub small : nat_abs z ≤ most
  pub room : most ≤ 2 ^ 126
  pub whole : sum_bound most rest ≡ sum_bound 0 all
  pub fits : SumFits most rest
  pub there : There columns rest

module _ (at : Side → ℕ → ℤ) (columns : Side → ℕ) (all : List Product) where
  pub summed_first : ExprFits columns all → Summed at columns all (pos 0) all
  unfolding value_at
  summed_first h = record { value = refl; most = 0; small = omega arith; room = omega arith; whole = refl; fits = h.small; there = h.there }

-- ---- one factor alone

once : (z : ℤ) → pos 1 *ℤ z ≡ z
once z = suc_ℤ-*ℤ (pos 0) z ∙ ap (λ y. y +ℤ z) (zero-*ℤ z) ∙ +ℤ_idl z

-- the value of a product of one factor that isn't taken away
factor_alone : (at : Side → ℕ → ℤ) (minus : Bool) (fs : List Factor) (g : Factor) → length fs ≡ 1 → minus ≡ false → factor_value at (get_or fs 0 g) ≡ signed_value minus (fold (λ z f. z *ℤ factor_value at f) (pos 1) fs)
factor_alone at minus [] g one plain = absurd (omega arith)
factor_alone at minus (f ∷ []) g one plain = sym (once (factor_value at f)) ∙ ap (λ b. signed_value b (pos 1 *ℤ factor_value at f)) (sym plain)
factor_alone at minus (f ∷ f' ∷ fs) g one plain = absurd (omega arith)

-- and of one such product
pub value_alone : (at : Side → ℕ → ℤ) (ps : List Product) (d e : Product) (g : Factor) → length ps ≡ 1 → (get_or ps 0 d).minus ≡ false → length (get_or ps 0 e).factors ≡ 1 → factor_value at (get_or (get_or ps 0 e).factors 0 g) ≡ value_at at ps
unfolding value_at
value_alone at [] d e g one plain alone = absurd (omega arith)
value_alone at (p ∷ []) d e g one plain alone = factor_alone at p.minus p.factors g alone plain ∙ sym (+ℤ_idl (product_value at p))
value_alone at (p ∷ q ∷ ps) d e g one plain alone = absurd (omega arith)
