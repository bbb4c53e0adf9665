use Rattle.std.proofs.Common.{◌≡◌, ◌≤◌}
use Rattle.saber_plan.specs.Trees.{tree_of}
use Rattle.saber_group.proofs.Running.{SliceTo}
use Rattle.saber_group.proofs.group.Group.span_from.Given as goal

abbrev pub invariant-loop-i : goal.invariant-loop-i
invariant-loop-i l = record {
  low : l.fn.from ≤ l.i;
  done : l.part.done ≡ l.fn.part.done;
  slice : SliceTo (tree_of l.fn.self) l.fn.batch.before l.fn.batch.rows.now l.fn.from l.i l.first l.past l.part.last;
}
