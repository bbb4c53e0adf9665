use Rattle.std.proofs.Common.{◌≡◌, ◌-◌, ◌≤◌, List, ◌++◌, length, take}
use Rattle.saber_plan.specs.Trees.{tree_of}
use Rattle.saber_plan.specs.Windows.{mark_after}
use Rattle.saber_plan.specs.Parts.{no_part}
use Rattle.saber_group.specs.declared.slices.Slice.{Slice}
use Rattle.saber_group.specs.SlicePieces.{SlicesFrom}
use Rattle.saber_group.proofs.group.Group.groups_of.Given as goal

abbrev pub invariant-loop-from : goal.invariant-loop-from
invariant-loop-from l = record {
  none : l.part ≡ no_part;
  within : l.from ≤ length l.fn.batch.rows.now;
  mark : l.mark ≡ mark_after l.fn.batch.before (take l.from l.fn.batch.rows.now);
  slices : (more : List Slice) → SlicesFrom (tree_of l.fn.self) l.fn.batch.before l.fn.batch.rows.now l.from more → SlicesFrom (tree_of l.fn.self) l.fn.batch.before l.fn.batch.rows.now 0 (l.slices.items ++ more);
}

abbrev pub decreases-loop-from : goal.decreases-loop-from
decreases-loop-from l = length l.fn.batch.rows.now - l.from
