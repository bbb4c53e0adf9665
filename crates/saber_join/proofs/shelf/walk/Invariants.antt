use Rattle.std.proofs.Common.{◌≡◌, ◌<◌, ◌≤◌, ◌+◌, ◌++◌, ℕ, length, filter, take, map, reverse, get_or, pos}
use Rattle.std.specs.List.{AllByRecursion}
use Rattle.saber_join.specs.Shelves.{meets, cards_at, bucket_of}
use Rattle.saber_join.specs.Linked.{card_in, keys_in}
use Rattle.saber_join.proofs.shelf.walk.Given as goal

abbrev pub invariant-loop-next : goal.invariant-loop-next
invariant-loop-next l = record {
  within : l.next ≤ length l.rows;
  chain : (i : ℕ) → l.next ≡ i + 1 → bucket_of l.mask (get_or (keys_in l.rows) i (pos 0)) ≡ bucket_of l.mask l.key;
  there : AllByRecursion (λ i. i < length l.rows) l.found.items;
  are : filter (meets l.key l.low) (take l.next (map card_in l.rows)) ++ cards_at (map card_in l.rows) (reverse l.found.items) ≡ filter (meets l.key l.low) (map card_in l.rows);
}

abbrev pub decreases-loop-next : goal.decreases-loop-next
decreases-loop-next l = l.next
