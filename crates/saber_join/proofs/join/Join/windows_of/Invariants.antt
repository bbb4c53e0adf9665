use Rattle.std.proofs.Common.{◌≡◌, ◌+◌, ◌++◌, take, length}
use Rattle.saber_plan.specs.Trees.{tree_of}
use Rattle.saber_plan.specs.Windows.{mark_after, placed_after}
use Rattle.saber_plan.specs.Answers.{frame}
use Rattle.saber_join.specs.Keeping.{lefts_of, rights_of}
use Rattle.saber_join.specs.Open.{seen_parts}
use Rattle.saber_join.proofs.Task.{HasParts}
use Rattle.saber_join.proofs.join.Join.windows_of.Given as goal

abbrev pub invariant-loop-i : goal.invariant-loop-i
invariant-loop-i l = record {
  lately : l.lately ≡ frame (tree_of l.self);
  mark : l.mark ≡ mark_after l.fn.after (take l.i l.rows);
  lefts : l.contents.lefts ≡ lefts_of (frame (tree_of l.self)) l.tie l.closed (placed_after l.fn.before (l.back ++ take l.i l.rows));
  rights : l.contents.rights ≡ rights_of (frame (tree_of l.self)) l.tie l.closed (placed_after l.fn.before (l.back ++ take l.i l.rows));
  parts : HasParts (tree_of l.self) l.closed (l.fn.before.left + l.fn.before.right + length l.back) l.fn.before (l.back ++ take l.i l.rows) (seen_parts l.contents.windows.entries);
}
