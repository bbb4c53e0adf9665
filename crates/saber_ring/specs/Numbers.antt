-- Lists of numbers as the data of a work: the laws that the tests' own work needs.
use Rattle.std.specs.Prelude.{◌≡◌, ℕ, ◌+◌, ◌-◌, ◌≤◌, List, [], ◌∷◌, ◌++◌, length, take}
use Rattle.std.proofs.Common.{sym, subst, le_refl, arith}
use Rattle.std.proofs.lemmas.List.{take-append-le, take-take, take_all}

pub keeps : (told : List ℕ) (d k : ℕ) (rows : ℕ) → length told ≡ d → length (told ++ rows ∷ []) ≡ d + 1 → Unit {0} → k ≤ d
    → take k (told ++ rows ∷ []) ≡ take k told
keeps told d k rows a b _ le = take-append-le k told (rows ∷ []) (subst (λ (z : ℕ). k ≤ z) (sym a) le)

pub again : (told : List ℕ) (d j k : ℕ) → length told ≡ d → k ≤ j → j ≤ d → take k (take j told) ≡ take k told
again told d j k a le within = take-take k j told le

pub whole : (told : List ℕ) (d : ℕ) → length told ≡ d → take d told ≡ told
whole told d a = take_all d told (subst (λ (z : ℕ). z ≤ d) (sym a) (le_refl d))

pub early : (told : List ℕ) (d t : ℕ) → length told ≡ d → t ≤ d → t - 2 ≤ t
early told d t a le = omega arith

pub rises : (told : List ℕ) (d j k : ℕ) → length told ≡ d → j ≤ k → k ≤ d → j - 2 ≤ k - 2
rises told d j k a le within = omega arith
