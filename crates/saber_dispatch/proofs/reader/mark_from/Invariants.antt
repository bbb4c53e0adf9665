use Rattle.std.proofs.Common.{◌≡◌, ◌≤◌, ◌<◌, ◌+◌, ◌^◌, drop}
use Rattle.std.specs.List.{AllByRecursion}
use Rattle.saber_plan.specs.Rows.{stamp}
use Rattle.saber_plan.specs.Windows.{mark_after}
use Rattle.saber_dispatch.proofs.reader.mark_from.Given as goal

abbrev pub invariant-loop-i : goal.invariant-loop-i
invariant-loop-i l = record {
  mark : mark_after l.before (drop l.from l.out.rows) ≡ mark_after l.mark (drop l.i l.out.rows);
  times : AllByRecursion (λ r. stamp r.values < 2 ^ 63) (drop l.i l.out.rows);
  left : l.mark.left + l.from ≤ l.before.left + l.i;
  right : l.mark.right + l.from ≤ l.before.right + l.i;
}
