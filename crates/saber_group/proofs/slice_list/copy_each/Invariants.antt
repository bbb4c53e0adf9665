use Rattle.std.proofs.Common.{◌≡◌, take}
use Rattle.saber_group.proofs.slice_list.copy_each.Given as goal

abbrev pub invariant-loop-i : goal.invariant-loop-i
invariant-loop-i l = l.copies.items ≡ take l.i l.slices.items
