-- What a column alone is worth.
use Rattle.std.proofs.Common.{◌≡◌, ℕ, List, [], get_or, ℤ, pos, ◌+ℤ◌, ◌*ℤ◌, ◌∙◌, ap}
use Rattle.std.proofs.Math.IntN.{+ℤ_idl, suc_ℤ-*ℤ, zero-*ℤ}
use Rattle.saber_plan.specs.Checked.{lone}
use Rattle.saber_plan.specs.Values.{value, value_at}

once : (z : ℤ) → pos 1 *ℤ z ≡ z
once z = suc_ℤ-*ℤ (pos 0) z ∙ ap (λ y. y +ℤ z) (zero-*ℤ z) ∙ +ℤ_idl z

pub lone_value : (k : ℕ) (zs : List ℤ) → value (lone k) zs [] ≡ get_or zs k (pos 0)
unfolding value_at
lone_value k zs = +ℤ_idl (pos 1 *ℤ get_or zs k (pos 0)) ∙ once (get_or zs k (pos 0))
