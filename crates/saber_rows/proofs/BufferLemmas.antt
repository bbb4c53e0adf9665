-- Bytes in a buffer.
use Rattle.std.proofs.Common.{◌≡◌, ℕ, ◌+◌, ◌-◌, ◌≤◌, List, ◌++◌, length, take, drop, slice_range, sym, ◌∙◌, ap, arith, length-take, length-drop, append_assoc, Option}
use Rattle.std.proofs.Math.Seq.{take-append-add}
use Rattle.std.proofs.lemmas.List.{append-nil, take-append-le, drop-append-le, drop-take, drop-drop, take-take, length-take-le}
use Rattle.saber_io.specs.Outside.{left_before}
use Rattle.saber_rows.specs.Buffer.{Gains}

pub consumed : (xs : List ℕ) (at end n : ℕ) → n ≤ length (slice_range xs at end) → slice_range xs (at + n) end ≡ drop n (slice_range xs at end)
consumed xs at end n h =
    let few : n ≤ end - at = omega (arith, length-take (end - at) (drop at xs)) in
    let same : n + (end - (at + n)) ≡ end - at = omega arith in
    ap (take (end - (at + n))) (sym (drop-drop n at xs)) ∙ sym (drop-take n (end - (at + n)) (drop at xs)) ∙ ap (λ k. drop n (take k (drop at xs))) same

-- what stands in a buffer after bytes were written behind the end
written : (buf piece rest : List ℕ) (at end n : ℕ) → at ≤ end → end ≤ length buf → n ≤ length piece → slice_range (take end buf ++ (piece ++ rest)) at (end + n) ≡ slice_range buf at end ++ take n piece
written buf piece rest at end n h k m =
    let len : length (take end buf) ≡ end = length-take-le end buf k in
    let same : at + (end - at) ≡ end = omega arith in
    let front : drop at (take end buf) ≡ slice_range buf at end = ap (λ e. drop at (take e buf)) (sym same) ∙ drop-take at (end - at) buf in
    let sized : length (slice_range buf at end) ≡ end - at = length-take-le (end - at) (drop at buf) (omega (arith, length-drop at buf)) in
    let count : end + n - at ≡ length (slice_range buf at end) + n = omega (arith, sized) in
    ap (take (end + n - at)) (drop-append-le at (take end buf) (piece ++ rest) (omega arith) ∙ ap (λ f. f ++ (piece ++ rest)) front)
    ∙ ap (λ k. take k (slice_range buf at end ++ (piece ++ rest))) count
    ∙ take-append-add (slice_range buf at end) (piece ++ rest) n
    ∙ ap (λ p. slice_range buf at end ++ p) (take-append-le n piece rest m)

ranged : (xs : List ℕ) (at end : ℕ) → at ≤ end → slice_range xs at end ≡ drop at (take end xs)
ranged xs at end h =
    let same : at + (end - at) ≡ end = omega arith in
    sym (drop-take at (end - at) xs) ∙ ap (λ e. drop at (take e xs)) same

-- a part that lies in the first bytes
in_front : (xs : List ℕ) (at end len : ℕ) → at ≤ end → end ≤ len → slice_range (take len xs) at end ≡ slice_range xs at end
in_front xs at end len h k = ranged (take len xs) at end h ∙ ap (drop at) (take-take end len xs k) ∙ sym (ranged xs at end h)

-- the same in a vector whose bytes were written as a slice
module _ (buf piece rest tail : List ℕ) (at end len : ℕ) (h : at ≤ end) (k : end ≤ length buf) where
  written_in : (n : ℕ) → n ≤ length piece → end + n ≤ len → slice_range (take len ((take end buf ++ (piece ++ rest)) ++ tail)) at (end + n) ≡ slice_range buf at end ++ take n piece
  written_in n m l =
      in_front ((take end buf ++ (piece ++ rest)) ++ tail) at (end + n) len (omega arith) l
      ∙ ap (λ xs. slice_range xs at (end + n)) (append_assoc (take end buf) (piece ++ rest) tail ∙ ap (λ xs. take end buf ++ xs) (append_assoc piece rest tail))
      ∙ written buf piece (rest ++ tail) at end n h k m

  pub kept : end ≤ len → slice_range (take len ((take end buf ++ (piece ++ rest)) ++ tail)) at end ≡ slice_range buf at end
  kept l = ap (slice_range (take len ((take end buf ++ (piece ++ rest)) ++ tail)) at) (omega arith) ∙ written_in 0 (omega arith) (omega arith) ∙ append-nil (slice_range buf at end)

  pub gained : (n : ℕ) (old : List ℕ) (had has : Option (List ℕ)) → n ≤ length piece → end + n ≤ len → slice_range buf at end ≡ old → had ≡ left_before (take n piece) has → Gains n old (slice_range (take len ((take end buf ++ (piece ++ rest)) ++ tail)) at (end + n)) had has
  gained n old had has m l same left = record {
    taken = take n piece;
    count = length-take-le n piece m;
    behind = written_in n m l ∙ ap (λ o. o ++ take n piece) same;
    left = left;
  }
