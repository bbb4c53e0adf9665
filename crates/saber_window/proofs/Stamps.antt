-- Timestamps of rows that fit.
use Rattle.std.proofs.Common.{◌≡◌, ◌^◌, ◌≤◌, List, [], ◌∷◌, ℤ, pos, negsuc, nat_abs, None, arith}
use Rattle.std.proofs.lemmas.Bool.Decides.{nat_tests}
use Rattle.saber_plan.specs.Rows.{stamp, wide_field}
use Rattle.saber_window.specs.Laws.{StampsFit}

-- the first number of a row that fits is 0 to 2^62
first_fits : (z : ℤ) (zs : List ℤ) → wide_field 1 (z ∷ zs) ≡ None → nat_abs z ≤ 2 ^ 62
first_fits (pos n) zs h = grind (arith, nat_tests)
first_fits (negsuc n) zs h = cc

stamp_fits : (zs : List ℤ) → wide_field 1 zs ≡ None → stamp zs ≤ 2 ^ 62
stamp_fits [] h = omega arith
stamp_fits (z ∷ zs) h = first_fits z zs h

pub stamps_fit : StampsFit
stamps_fit side columns r h = stamp_fits r.values h.range
