use Rattle.std.proofs.Common.{◌≡◌, ◌≤◌, ◌+◌, length, take}
use Rattle.saber_plan.specs.Trees.{tree_of}
use Rattle.saber_plan.specs.Windows.{mark_after}
use Rattle.saber_plan.specs.Merges.{both}
use Rattle.saber_plan.specs.Parts.{merge}
use Rattle.saber_panes.specs.Panes.{panes_in}
use Rattle.saber_panes.proofs.PaneFolding.{so_far}
use Rattle.saber_panes.proofs.panes.Panes.fold.Given as goal

abbrev pub invariant-loop-i : goal.invariant-loop-i
invariant-loop-i g l = record {
  mark : l.mark ≡ mark_after l.fn.before (take l.i l.rows);
  panes : l.self ≡ both merge l.fn.self (panes_in (tree_of l.fn.p) (so_far (tree_of l.fn.p) l.fn.before l.rows l.i));
  steps : l.steps ≤ l.fn.steps + length (so_far (tree_of l.fn.p) l.fn.before l.rows l.i);
}
