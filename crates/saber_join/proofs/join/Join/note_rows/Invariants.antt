use Rattle.std.proofs.Common.{◌≡◌, ◌++◌, take}
use Rattle.saber_plan.specs.Trees.{tree_of}
use Rattle.saber_plan.specs.Windows.{mark_after, placed_after}
use Rattle.saber_plan.specs.Answers.{frame}
use Rattle.saber_join.specs.Keeping.{lefts_of, rights_of}
use Rattle.saber_join.proofs.join.Join.note_rows.Given as goal

abbrev pub invariant-loop-i : goal.invariant-loop-i
invariant-loop-i l = record {
  lately : l.lately ≡ frame (tree_of l.fn.self);
  mark : l.mark ≡ mark_after l.fn.before (take l.i l.rows);
  lefts : l.contents.lefts ≡ l.fn.contents.lefts ++ lefts_of (frame (tree_of l.fn.self)) l.tie l.fn.closed (placed_after l.fn.before (take l.i l.rows));
  rights : l.contents.rights ≡ l.fn.contents.rights ++ rights_of (frame (tree_of l.fn.self)) l.tie l.fn.closed (placed_after l.fn.before (take l.i l.rows));
  windows : l.contents.windows.entries ≡ l.fn.contents.windows.entries;
}
