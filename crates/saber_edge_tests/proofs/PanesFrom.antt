-- Panes of no rows, how many rows are counted, and where window 0's panes end.
use Rattle.std.proofs.Common.{◌≡◌, ◌+◌, ◌*◌, ◌≤◌, ◌<◌, ◌^◌, List, [], length, refl, sym, subst, arith}
use Rattle.std.proofs.Math.Nat.{div-le_self}
use Rattle.std.specs.FinMap.{empty}
use Rattle.saber_plan.specs.declared.rows.Row.{Row}
use Rattle.saber_plan.specs.declared.windows.Mark.{Mark}
use Rattle.saber_plan.specs.Trees.{Tree}
use Rattle.saber_plan.specs.Windows.{no_rows, placed_after}
use Rattle.saber_plan.specs.Answers.{frame}
use Rattle.saber_plan.specs.Facts.Lists.{few_pass}
use Rattle.saber_plan.specs.Facts.Rows.{length-placed}
use Rattle.saber_laws.specs.Plans.{OneWindow}
use Rattle.saber_panes.specs.Panes.{divisor, first_pane, pane_count, panes_in, panes_here, counted_rows, is_counted}

pub no_panes : (q : Tree) (m : Mark) → panes_here q m [] ≡ empty
unfolding placed_after panes_in
no_panes q m = refl

pub few_counted : (q : Tree) (xs : List Row) → length xs ≤ 200 → length (counted_rows q (placed_after no_rows xs)) ≤ 2 ^ 40
few_counted q xs few =
    let pass = few_pass (is_counted q) (placed_after no_rows xs) in
    let long = length-placed no_rows xs in
    omega (arith, few, pass, long)

pub near : (q : Tree) → OneWindow q → first_pane (frame q) 0 + pane_count (frame q) < 2 ^ 64
near q w =
    let size = w.window.size in
    let slide = w.window.slide in
    let none = div-le_self (0 * slide) (divisor size slide) in
    let few = div-le_self size (divisor size slide) in
    let most = w.fits.size.1 in
    subst (λ f. first_pane f 0 + pane_count f < 2 ^ 64) (sym w.has_frame) (omega (arith, none, few, most))
