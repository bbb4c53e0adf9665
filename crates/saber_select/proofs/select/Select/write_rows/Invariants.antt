use Rattle.std.proofs.Common.{◌≡◌, ◌++◌, drop}
use Rattle.std.specs.List.{AllByRecursion}
use Rattle.saber_plan.specs.Trees.{tree_of}
use Rattle.saber_plan.specs.GivenRows.{IsRowOf}
use Rattle.saber_plan.specs.Answers.{selected_lines}
use Rattle.saber_select.proofs.select.Select.write_rows.Given as goal

abbrev pub invariant-loop-i : goal.invariant-loop-i
invariant-loop-i l = record {
  fit : AllByRecursion (IsRowOf (tree_of l.fn.self)) (drop l.i l.rows);
  all : l.out.items ++ selected_lines (tree_of l.fn.self) (drop l.i l.rows) ≡ l.fn.out.items ++ selected_lines (tree_of l.fn.self) l.rows;
}
