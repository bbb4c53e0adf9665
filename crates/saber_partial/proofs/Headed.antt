-- The text of a window's number.
use Rattle.std.proofs.Common.{◌≡◌, ◌≤◌, ◌<◌, ◌^◌, ℕ, List, length, take, ap, arith}
use Rattle.std.proofs.lemmas.Fmt.{length-decimal-le}
use Rattle.std.proofs.lemmas.List.{length-take-le}
use Rattle.std.specs.Fmt.{decimal}

-- a number of 64 bits has few digits
pub few_digits : (n k : ℕ) (xs : List ℕ) → length xs ≡ 128 → k ≤ 40 → n < 2 ^ 64 → take k xs ≡ decimal n → k ≤ 24
few_digits n k xs whole high low h =
    let long = length-take-le k xs (omega (arith, whole, high)) in
    let same = ap length h in
    let most = length-decimal-le 20 n (omega arith) (omega (arith, low)) (omega (arith, low)) in
    omega (arith, long, same, most)
