-- The greatest common divisor, and points cut by it.
use Rattle.std.proofs.Common.{◌≡◌, ℕ, zero, suc, ◌*◌, ◌/◌, ◌%◌, ◌≤◌, ◌<◌, ◌==◌, Bool, true, false, cond, refl, arith}
use Rattle.std.specs.Int.{IsGcd, ◌∣◌}
use Rattle.std.proofs.lemmas.Bool.{eqb-true}
use Rattle.std.proofs.lemmas.Nat.{mod_below}
use Rattle.std.proofs.Math.Nat.{div-mul_cancel}
use Rattle.std.proofs.lemmas.Nat.Gcd.{IsGcd-from_zero, IsGcd-from_mod, same_from_IsGcd}
use Rattle.saber_panes.specs.Panes.{divisor_by, divisor}

positive : (b : ℕ) → (b == 0) ≡ false → 0 < b
positive zero e = cc
positive (suc b) e = omega arith

rest_below : (n a b : ℕ) → b ≤ suc n → (b == 0) ≡ false → a % b ≤ n
rest_below n a b l e = let low = mod_below a b (positive b e) in omega (arith, low, l)

divisor_case : (n a b : ℕ) (t : Bool) → (b == 0) ≡ t → (t ≡ false → IsGcd b (a % b) (divisor_by n b (a % b))) → IsGcd a b (cond t a (divisor_by n b (a % b)))
divisor_case n a b true e h = IsGcd-from_zero a b (eqb-true b 0 e)
divisor_case n a b false e h = IsGcd-from_mod a b _ (h refl)

pub divides_by : (n a b : ℕ) → b ≤ n → IsGcd a b (divisor_by n a b)
divides_by zero a b l = IsGcd-from_zero a b (omega (arith, l))
divides_by (suc n) a b l = divisor_case n a b (b == 0) refl (λ e. divides_by n b (a % b) (rest_below n a b l e))

-- 0 divides nothing but 0
some_of : (g a : ℕ) → 1 ≤ a → g ∣ a → 1 ≤ g
some_of zero a l d = let same : a / zero * zero ≡ a = div-mul_cancel zero d in let none : a / zero * zero ≡ 0 = omega arith in omega (arith, same, none, l)
some_of (suc g) a l d = omega arith

pub is_divisor : (a b : ℕ) → IsGcd a b (divisor a b)
is_divisor a b = divides_by b a b (omega arith)

pub divisor_is : (a b g : ℕ) → IsGcd a b g → g ≡ divisor a b
divisor_is a b g h = same_from_IsGcd a b g (divisor a b) h (is_divisor a b)

-- it is at least 1, where the first number is: nothing else divides it
pub divisor_some : (a b : ℕ) → 1 ≤ a → 1 ≤ divisor a b
divisor_some a b l = some_of (divisor a b) a l (is_divisor a b).0
