use Rattle.std.proofs.Common.{◌≡◌, take}
use Rattle.saber_plan.specs.Trees.{tree_of}
use Rattle.saber_plan.specs.Windows.{mark_after}
use Rattle.saber_plan.specs.Answers.{frame}
use Rattle.saber_select.specs.Open.{seen_windows, HoldsFrom}
use Rattle.saber_select.proofs.windowed.WindowedSelect.windows_of.Given as goal

abbrev pub invariant-loop-i : goal.invariant-loop-i
invariant-loop-i l = record {
  lately : l.lately ≡ frame (tree_of l.self);
  mark : l.mark ≡ mark_after l.before (take l.i l.rows);
  rows : HoldsFrom (tree_of l.self) l.closed l.before (take l.i l.rows) (seen_windows l.windows.entries);
}
