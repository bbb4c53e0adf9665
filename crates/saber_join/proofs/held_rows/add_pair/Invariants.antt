use Rattle.std.proofs.Common.{◌≤◌, max}
use Rattle.saber_plan.specs.Trees.{tree_of}
use Rattle.saber_join.specs.Open.{seen_parts, Changed, with_pair}
use Rattle.saber_join.proofs.held_rows.add_pair.Given as goal

abbrev pub invariant-loop-window : goal.invariant-loop-window
invariant-loop-window l = record {
  changed : Changed (with_pair (tree_of l.join) l.left l.right) l.fn.low l.window (seen_parts l.fn.windows.entries) (seen_parts l.windows.entries);
  within : l.window ≤ max l.fn.low l.fn.past;
}
