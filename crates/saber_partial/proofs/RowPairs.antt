-- Two rows of a list, one behind the other.
use Rattle.std.proofs.Common.{◌≡◌, ℕ, suc, ◌+◌, ◌-◌, ◌*◌, ◌≤◌, ◌<◌, List, ◌++◌, length, take, drop, get_or, append_assoc, ℤ, sym, ◌∙◌, ap, ap₂, subst, arith}
use Rattle.std.proofs.lemmas.List.{drop-drop, drop-take, length-drop, length-take-le, take-append-drop, take-take}
use Rattle.std.proofs.Math.ListN.{set}
use Rattle.saber_plan.specs.Parts.{Numbers}
use Rattle.saber_partial.specs.declared.layout.Layout.{Layout}
use Rattle.saber_partial.specs.Flat.{Table, entry_in, entries_in, AreRows, IsRow}
use Rattle.saber_partial.proofs.FlatRows.{here, len_shown, row_ends, row_is, row_seen, rows_written, written}

pub next_shown : (l : Layout) (n : ℕ) (xs : List ℤ) (t : Table) (i : ℕ) → record { layout = l; entries = entries_in l n xs } ≡ t → i + 1 < length t.entries → i + 1 < n
next_shown l n xs t i e h = len_shown l n xs t (i + 1) e h

module _ (l : Layout) (n i : ℕ) (xs : List ℤ) (rows : AreRows l n xs) (low : i + 1 < n) where
  abbrev w : ℕ
  w = l.width

  first : i < n
  first = omega (arith, low)

  second : suc i < n
  second = omega (arith, low)

  behind : suc i * w ≡ i * w + w
  behind = omega arith

  pub pair_ends : i * w + (w + w) ≤ length xs
  pair_ends = let a = row_ends l n (suc i) xs rows second in let b = behind in omega (arith, a, b)

  abbrev pub pair : List ℤ
  pair = take (w + w) (drop (i * w) xs)

  pub pair_long : length pair ≡ w + w
  pair_long = length-take-le (w + w) (drop (i * w) xs) (let a = pair_ends in let b = length-drop (i * w) xs in omega (arith, a, b))

  pair_front : take w pair ≡ here l i xs
  pair_front = take-take w (w + w) (drop (i * w) xs) (omega arith)

  next : drop w (drop (i * w) xs) ≡ drop (suc i * w) xs
  next = drop-drop w (i * w) xs ∙ ap (λ k. drop k xs) (sym behind)

  pair_behind : drop w pair ≡ here l (suc i) xs
  pair_behind = drop-take w w (drop (i * w) xs) ∙ ap (take w) next

  pub mine_is : IsRow l (take w pair)
  mine_is = subst (IsRow l) (sym pair_front) (row_is l n i xs rows first)

  pub theirs_is : IsRow l (drop w pair)
  theirs_is = subst (IsRow l) (sym pair_behind) (row_is l n (suc i) xs rows second)

  pub mine_seen : (d : List ℤ × Numbers) → entry_in l (take w pair) ≡ get_or (entries_in l n xs) i d
  mine_seen d = ap (entry_in l) pair_front ∙ sym (row_seen l n i xs rows first d)

  pub theirs_seen : (d : List ℤ × Numbers) → entry_in l (drop w pair) ≡ get_or (entries_in l n xs) (i + 1) d
  theirs_seen d = ap (entry_in l) pair_behind ∙ sym (row_seen l n (suc i) xs rows second d) ∙ ap (λ k. get_or (entries_in l n xs) k d) (omega arith)

  -- the first of them written over
  module _ (ys : List ℤ) (long : length ys ≡ w + w) (same : drop w ys ≡ drop w pair) where
    rest : drop w ys ++ drop (i * w + (w + w)) xs ≡ drop (i * w + w) xs
    rest =
        let far : i * w + w + w ≡ i * w + (w + w) = omega arith in
        ap₂ (λ (a b : List ℤ). a ++ b) (same ∙ pair_behind ∙ ap (λ k. take w (drop k xs)) behind) (ap (λ k. drop k xs) (sym far) ∙ sym (drop-drop w (i * w + w) xs))
        ∙ take-append-drop w (drop (i * w + w) xs)

    pub pair_put : take (i * w) xs ++ (ys ++ drop (i * w + (w + w)) xs) ≡ take (i * w) xs ++ (take w ys ++ drop (i * w + w) xs)
    pair_put = ap (λ l. take (i * w) xs ++ l)
        (ap (λ l. l ++ drop (i * w + (w + w)) xs) (sym (take-append-drop w ys)) ∙ append_assoc (take w ys) (drop w ys) (drop (i * w + (w + w)) xs) ∙ ap (λ l. take w ys ++ l) rest)

    pub rows_pair : IsRow l (take w ys) → AreRows l n (take (i * w) xs ++ (ys ++ drop (i * w + (w + w)) xs))
    rows_pair r = subst (AreRows l n) (sym pair_put) (rows_written l n i xs rows first (take w ys) r)

    pub pair_written : entries_in l n (take (i * w) xs ++ (ys ++ drop (i * w + (w + w)) xs)) ≡ set (entries_in l n xs) i (entry_in l (take w ys))
    pair_written = ap (entries_in l n) pair_put ∙ written l n i xs rows first (take w ys) (length-take-le w ys (omega (arith, long)))
