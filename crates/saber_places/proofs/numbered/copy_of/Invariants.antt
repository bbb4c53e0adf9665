use Rattle.std.proofs.Common.{◌≡◌, ◌≤◌, ◌+◌, ◌++◌, length, drop}
use Rattle.saber_places.proofs.numbered.copy_of.Given as goal

abbrev pub invariant-loop-value : goal.invariant-loop-value
invariant-loop-value l = record {
  room : length l.copy.items + length (drop l.value-index l.value-items) ≤ 8;
  all : l.copy.items ++ drop l.value-index l.value-items ≡ l.fn.list.items;
}
