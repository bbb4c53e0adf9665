-- A list in two parts.
use Rattle.std.proofs.Common.{◌≡◌, ℕ, ◌+◌, List, ◌++◌, take, drop, sym}
use Rattle.std.proofs.lemmas.List.{take-append-drop, drop-drop}

-- what is left from a place on: the next n, and what is left behind them
pub part_and_rest : {A : Type 0} (n at : ℕ) (xs got : List A) → got ≡ take n (drop at xs) → drop at xs ≡ got ++ drop (at + n) xs
part_and_rest n at xs got e = rw (e, ← drop-drop n at xs) (sym (take-append-drop n (drop at xs)))
