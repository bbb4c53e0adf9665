use Rattle.std.proofs.Common.{◌≡◌, ◌≤◌, ◌<◌, ◌+◌, ◌^◌, drop}
use Rattle.std.specs.List.{AllByRecursion}
use Rattle.saber_plan.specs.Rows.{stamp}
use Rattle.saber_plan.specs.Windows.{placed_after}
use Rattle.saber_plan.specs.Needs.{later_of, last_of}
use Rattle.saber_dispatch.proofs.last_windows.last_of_each.Given as goal

abbrev pub invariant-loop-i : goal.invariant-loop-i
invariant-loop-i l = record {
  last : last_of l.windows (placed_after l.before l.rows) ≡ later_of l.last (last_of l.windows (placed_after l.mark (drop l.i l.rows)));
  times : AllByRecursion (λ r. stamp r.values < 2 ^ 63) (drop l.i l.rows);
  left : l.mark.left ≤ l.before.left + l.i;
  right : l.mark.right ≤ l.before.right + l.i;
}
