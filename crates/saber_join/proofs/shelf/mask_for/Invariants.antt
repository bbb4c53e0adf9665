use Rattle.std.proofs.Common.{◌<◌, ◌^◌}
use Rattle.saber_join.proofs.shelf.mask_for.Given as goal

abbrev pub invariant-loop-i : goal.invariant-loop-i
invariant-loop-i l = l.mask < 2 ^ 33
