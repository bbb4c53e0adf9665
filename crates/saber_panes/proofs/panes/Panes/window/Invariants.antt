use Rattle.std.proofs.Common.{◌≡◌, ◌≤◌, ◌+◌, ◌-◌}
use Rattle.saber_plan.specs.Windows.{from}
use Rattle.saber_plan.specs.Parts.{merge}
use Rattle.saber_panes.specs.Panes.{merged_panes}
use Rattle.saber_panes.proofs.panes.Panes.window.Given as goal

abbrev pub invariant-loop-pane : goal.invariant-loop-pane
invariant-loop-pane g l = record {
  low : l.first ≤ l.next;
  high : l.next ≤ l.past;
  part : l.out ≡ merge l.fn.out (merged_panes l.self (from l.first (l.next - l.first)));
  steps : l.steps ≤ l.fn.steps + (l.next - l.first);
}

abbrev pub decreases-loop-pane : goal.decreases-loop-pane
decreases-loop-pane g l = l.past - l.next
