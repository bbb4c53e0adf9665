use Rattle.std.proofs.Common.{ℕ, ◌+◌, ◌*◌, ◌≤◌, List, length}
use Rattle.saber_plan.specs.declared.rows.Row.{Row}
use Rattle.saber_plan.specs.declared.windows.Mark.{Mark}
use Rattle.saber_plan.specs.Texts.{Behind}
use Rattle.saber_plan.specs.Trees.{tree_of}
use Rattle.saber_changes.specs.Outputs.{IsBefore, Passed, StandsIn}
use Rattle.saber_group.specs.SliceParts.{answers_over}
use Rattle.saber_group.specs.SliceStores.{GoesOn}
use Rattle.saber_group.proofs.SlicesTaken.{Along}
use Rattle.saber_group.proofs.group.Group.take_slices.Given as goal

abbrev pub invariant-loop-first : goal.invariant-loop-first
invariant-loop-first g l = record {
  before : IsBefore l.output l.store.next;
  along : (m : Mark) (all : List Row) (o x y : ℕ) → GoesOn (tree_of l.fn.self) m all o x y l.fn.store.next l.fn.store.slices.entries l.fn.slices l.fn.closed
      → Along (tree_of l.fn.self) m all o y l.fn.store.next l.store.next l.store.slices.entries l.rest l.fn.closed;
  passed : (m : Mark) (all : List Row) (o x y : ℕ) → GoesOn (tree_of l.fn.self) m all o x y l.fn.store.next l.fn.store.slices.entries l.fn.slices l.fn.closed
      → StandsIn (answers_over (tree_of l.fn.self) m all) l.fn.output
      → Passed (answers_over (tree_of l.fn.self) m all) l.fn.output l.output l.fn.store.next l.store.next l.fn.out.items l.out.items;
  steps : l.steps + l.store.slices.owed + l.fn.store.next + 2 * length l.rest ≤ l.fn.steps + l.fn.store.slices.owed + 2 * length l.fn.slices + l.store.next;
  behind : Behind l.fn.out.items l.out.items;
}

abbrev pub decreases-loop-first : goal.decreases-loop-first
decreases-loop-first g l = length l.rest
