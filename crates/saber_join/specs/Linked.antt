-- How the rows of a shelf are linked.
use Rattle.std.specs.Prelude.{◌≡◌, ℕ, ◌+◌, ◌<◌, ◌≤◌, List, length, take, get_or, map, ℤ}
use Rattle.std.specs.List.{AllByRecursion}
use Rattle.saber_join.specs.declared.shelf.Kept.{Kept}
use Rattle.saber_join.specs.Shelves.{Card, last_in, bucket_of}

abbrev pub card_in : Kept → Card
card_in k = record { seen = k.seen; key = k.key; first = k.first; past = k.past }

abbrev pub keys_in : List Kept → List ℤ
keys_in ks = map (λ k. k.key) ks

-- no window of these is behind this number
abbrev pub AllBelow : ℕ → List Kept → Type 0
AllBelow high ks = AllByRecursion (λ (k : Kept). k.past ≤ high) ks

-- each bucket begins with its last row, each row is linked to the last one before it in its bucket, and knows how far those up to it reach
pub record Linked (mask : ℕ) (last : List ℕ) (ks : List Kept) : Type 0 where
  pub buckets : length last ≡ mask + 1
  pub ends : (b : ℕ) → b < length last → get_or last b 0 ≡ last_in mask b (keys_in ks) (length ks)
  pub links : (i : ℕ) (k : Kept) → i < length ks → k ≡ get_or ks i k → k.previous ≡ last_in mask (bucket_of mask k.key) (keys_in ks) i
  pub below : (i : ℕ) (k : Kept) → i < length ks → k ≡ get_or ks i k → AllBelow k.high (take (i + 1) ks)
