use Rattle.std.proofs.Common.{◌≡◌, ◌≤◌, ◌+◌, take}
use Rattle.saber_plan.specs.declared.windows.Mark.{Mark}
use Rattle.saber_plan.specs.Windows.{mark_after}
use Rattle.saber_join.proofs.back.mark_before.Given as goal

abbrev pub invariant-loop-i : goal.invariant-loop-i
invariant-loop-i l = record {
  few_lefts : l.lefts ≤ l.i;
  few_rights : l.rights ≤ l.i;
  left : (m : Mark) → l.lefts + m.left ≡ (mark_after m (take l.i l.rows)).left;
  right : (m : Mark) → l.rights + m.right ≡ (mark_after m (take l.i l.rows)).right;
}
