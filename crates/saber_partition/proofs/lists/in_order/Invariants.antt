use Rattle.std.proofs.Common.{◌≡◌, length, map, zip}
use Rattle.saber_places.specs.Numbering.{lists_in}
use Rattle.saber_partition.specs.Stores.{own_of, lists_of}
use Rattle.saber_partition.proofs.Kept.{Turned}
use Rattle.saber_partition.proofs.lists.in_order.Given as goal

abbrev pub invariant-loop-list : goal.invariant-loop-list
invariant-loop-list l = record {
  turned : Turned (zip (lists_in l.fn.lists.items) (map own_of l.fn.owns.items)) (zip (lists_in l.lists.items) (map own_of l.owns.items)) (lists_of l.all.entries);
  long : length l.owns.items ≡ length l.lists.items;
}

abbrev pub decreases-loop-list : goal.decreases-loop-list
decreases-loop-list l = length l.lists.items
