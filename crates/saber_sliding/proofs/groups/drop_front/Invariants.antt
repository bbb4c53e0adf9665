use Rattle.std.proofs.Common.{◌≡◌, length}
use Rattle.saber_sliding.specs.Entries.{dropped_entries}
use Rattle.saber_sliding.proofs.groups.drop_front.Given as goal

abbrev pub invariant-loop-front : goal.invariant-loop-front
invariant-loop-front l = dropped_entries l.i l.front.items ≡ dropped_entries l.i l.fn.front.items

abbrev pub decreases-loop-front : goal.decreases-loop-front
decreases-loop-front l = length l.front.items
