-- Numbers with a comma before each.
use Rattle.std.specs.Prelude.{ℕ, List, ◌∷◌, ◌++◌, take, flat_map, ℤ}
use Rattle.std.specs.Fmt.{signed_decimal}

abbrev pub cells : List ℤ → List ℕ
cells zs = flat_map (λ z. 44 ∷ signed_decimal z) zs

-- a text, and behind it what stands before a place of an array
abbrev pub drafted_text : List ℕ → List ℕ → ℕ → List ℕ
drafted_text out line at = out ++ take at line
