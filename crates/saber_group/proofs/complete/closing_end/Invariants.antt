use Rattle.std.proofs.Common.{◌≤◌, take}
use Rattle.std.specs.List.{AllByRecursion}
use Rattle.saber_group.specs.declared.slices.Slice.{Slice}
use Rattle.saber_group.proofs.complete.closing_end.Given as goal

abbrev pub invariant-loop-at : goal.invariant-loop-at
invariant-loop-at l = AllByRecursion (λ (r : Slice). r.first ≤ l.low) (take l.at l.slices)
