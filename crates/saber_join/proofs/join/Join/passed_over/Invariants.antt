use Rattle.std.proofs.Common.{◌≤◌, ◌-◌, length, take}
use Rattle.saber_plan.specs.Trees.{tree_of}
use Rattle.saber_plan.specs.Windows.{placed_after}
use Rattle.saber_plan.specs.Answers.{frame}
use Rattle.saber_join.specs.Keeping.{NoneLies}
use Rattle.saber_join.proofs.join.Join.passed_over.Given as goal

abbrev pub invariant-loop-low : goal.invariant-loop-low
invariant-loop-low l = record {
  order : l.low ≤ l.high;
  within : l.high ≤ length l.rows;
  none : NoneLies (frame (tree_of l.self)) l.closed (placed_after l.before (take l.low l.rows));
}

abbrev pub decreases-loop-low : goal.decreases-loop-low
decreases-loop-low l = l.high - l.low
