use Rattle.std.proofs.Common.{◌≡◌, ◌-◌, ◌≤◌, List, ◌++◌, length, take}
use Rattle.saber_plan.specs.Trees.{tree_of}
use Rattle.saber_plan.specs.Windows.{mark_after}
use Rattle.saber_plan.specs.Parts.{no_part}
use Rattle.saber_group.specs.declared.slices.Slice.{Slice}
use Rattle.std.specs.List.{AllByRecursion}
use Rattle.saber_partial.specs.Ones.{AreOf}
use Rattle.saber_group.specs.declared.slice_list.Span.{Span}
use Rattle.saber_group.specs.SliceLists.{spans_left, Stands}
use Rattle.saber_group.specs.SlicePieces.{SlicesFrom}
use Rattle.saber_group.proofs.group.Group.spans_of.Given as goal

abbrev pub invariant-loop-from : goal.invariant-loop-from
invariant-loop-from l = record {
  none : l.parts.last ≡ no_part;
  within : l.from ≤ length l.fn.batch.rows.now;
  mark : l.mark ≡ mark_after l.fn.batch.before (take l.from l.fn.batch.rows.now);
  all : AreOf (tree_of l.fn.self) l.parts.done;
  stand : AllByRecursion (λ (s : Span). Stands l.parts.done s.part) l.spans.items;
  slices : (more : List Slice) → SlicesFrom (tree_of l.fn.self) l.fn.batch.before l.fn.batch.rows.now l.from more → SlicesFrom (tree_of l.fn.self) l.fn.batch.before l.fn.batch.rows.now 0 (spans_left l.parts.done l.spans.items ++ more);
}

abbrev pub decreases-loop-from : goal.decreases-loop-from
decreases-loop-from l = length l.fn.batch.rows.now - l.from
