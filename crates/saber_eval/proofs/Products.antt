-- Products, one factor after another.
use Rattle.std.proofs.Common.{◌≡◌, ℕ, suc, ◌+◌, ◌*◌, ◌<◌, ◌≤◌, List, [], ◌∷◌, length, drop, get_or, fold, ℤ, pos, ◌*ℤ◌, nat_abs, ◌∙◌, ap, subst, arith, add-one, drop-cons}
use Rattle.std.specs.List.{AllByRecursion}
use Rattle.std.proofs.Math.Nat.{mul-le-mul}
use Rattle.saber_plan.specs.declared.rows.Side.{Side}
use Rattle.saber_plan.specs.declared.expressions.Factor.{Factor}
use Rattle.saber_plan.specs.Values.{factor_value}
use Rattle.saber_plan.specs.Bounds.{factor_bound, bound_after, ProductFits}
use Rattle.saber_plan.specs.Checked.{HasColumn}

abbrev pub times_all : (Side → ℕ → ℤ) → ℤ → List Factor → ℤ
times_all at z fs = fold (λ z f. z *ℤ factor_value at f) z fs

-- the product so far, times the rest, is the whole, and has room
pub record Kept (at : Side → ℕ → ℤ) (columns : Side → ℕ) (all : List Factor) (z : ℤ) (rest : List Factor) : Type 0 where
  pub value : times_all at z rest ≡ times_all at (pos 1) all
  pub most : ℕ
  pub small : nat_abs z ≤ most
  pub whole : bound_after most rest ≡ bound_after 1 all
  pub fits : ProductFits most rest
  pub there : AllByRecursion (HasColumn columns) rest

module _ (at : Side → ℕ → ℤ) (columns : Side → ℕ) (all : List Factor) where
  kept_cons : (z v w : ℤ) (f : Factor) (rest : List Factor) → v ≡ factor_value at f → w ≡ z *ℤ v → nat_abs w ≤ nat_abs z * nat_abs v → nat_abs v ≤ factor_bound f → Kept at columns all z (f ∷ rest) → Kept at columns all w rest
  kept_cons z v w f rest ev ew bw bv k = record {
    value = ap (λ x. times_all at x rest) (ew ∙ ap (λ y. z *ℤ y) ev) ∙ k.value;
    most = k.most * factor_bound f;
    small = omega (arith, bw, mul-le-mul k.small bv);
    whole = k.whole;
    fits = k.fits.1;
    there = k.there.1;
  }

  pub kept_more : (i : ℕ) (d : Factor) (z v w : ℤ) → i < length all → v ≡ factor_value at (get_or all i d) → w ≡ z *ℤ v → nat_abs w ≤ nat_abs z * nat_abs v → nat_abs v ≤ factor_bound (get_or all i d) → Kept at columns all z (drop i all) → Kept at columns all w (drop (i + 1) all)
  kept_more i d z v w h ev ew bw bv k = rw add-one (kept_cons z v w (get_or all i d) (drop (suc i) all) ev ew bw bv (subst (Kept at columns all z) (drop-cons all i d h) k))

-- ---- two factors

pub two_bound : (fs : List Factor) (d e : Factor) (x y z : ℕ) → length fs ≡ 2 → x ≤ factor_bound (get_or fs 0 d) → y ≤ factor_bound (get_or fs 1 e) → z ≤ x * y → z ≤ bound_after 1 fs
two_bound [] d e x y z two bx b bz = absurd (omega arith)
two_bound (f ∷ []) d e x y z two bx b bz = absurd (omega arith)
two_bound (f ∷ g ∷ []) d e x y z two bx b bz =
    let one : factor_bound f ≡ 1 * factor_bound f = omega arith in
    subst (λ n. z ≤ n * factor_bound g) one (omega (arith, bz, mul-le-mul bx b))
two_bound (f ∷ g ∷ h ∷ fs) d e x y z two bx b bz = absurd (omega arith)
