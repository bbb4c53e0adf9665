use Rattle.std.proofs.Common.{◌≡◌, take}
use Rattle.saber_partial.specs.Young.{picked_entries}
use Rattle.saber_partial.proofs.table.Table.in_order.Given as goal

abbrev pub invariant-loop-i : goal.invariant-loop-i
invariant-loop-i l = record {
  layout : l.groups.layout ≡ l.self.layout;
  done : l.groups.entries ≡ picked_entries (take l.i l.order) l.self.entries;
}
