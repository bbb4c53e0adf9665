use Rattle.std.proofs.Common.{◌≡◌, ◌≤◌, ◌+◌, T, nat_cmp}
use Rattle.std.specs.FinMap.{is_sorted, len}
use Rattle.saber_plan.specs.Merges.{both}
use Rattle.saber_plan.specs.Parts.{merge}
use Rattle.saber_panes.specs.Panes.{seen_panes, CanTakeIn}
use Rattle.saber_panes.proofs.PaneMaps.{seen_list}
use Rattle.saber_panes.proofs.panes.Panes.take_in.Given as goal

abbrev pub invariant-loop-pane : goal.invariant-loop-pane
invariant-loop-pane g l = record {
  can : (goal.iterator-loop-pane g).can_next l.pane-iterator;
  finite : (goal.iterator-loop-pane g).is_finite l.pane-iterator;
  rest : both merge l.self (seen_panes l.pane-iterator) ≡ both merge l.fn.self l.fn.other;
  rising : T (is_sorted nat_cmp (seen_list l.pane-iterator));
  fits : CanTakeIn l.self (seen_panes l.pane-iterator);
  steps : l.steps + len (seen_panes l.pane-iterator) ≤ l.fn.steps + len l.fn.other;
}
