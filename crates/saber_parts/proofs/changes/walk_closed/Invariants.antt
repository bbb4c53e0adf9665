use Rattle.std.proofs.Common.{◌≤◌, ℕ}
use Rattle.saber_plan.specs.Answers.{Answers}
use Rattle.saber_plan.specs.Texts.{Behind}
use Rattle.saber_fragment.specs.Shown.{windows_by}
use Rattle.saber_changes.specs.Walks.{Stands, Walks}
use Rattle.saber_parts.specs.Stored.{closed_of}
use Rattle.saber_parts.specs.Changing.{Rises, Tells}
use Rattle.saber_parts.proofs.changes.walk_closed.Given as goal

abbrev pub invariant-loop-window : goal.invariant-loop-window
invariant-loop-window g l =
    let q = g.A.Assembles.plan l.fn.by in
    let shown = g.A.Assembles.shown in
    let left = windows_by shown l.window-iterator in
    let all = windows_by shown (closed_of l.closed_below l.fn.parts.entries) in
    record {
      can : (goal.iterator-loop-window g).can_next l.window-iterator;
      finite : (goal.iterator-loop-window g).is_finite l.window-iterator;
      from : l.fn.walk.next ≤ l.walk.next;
      rises : Rises l.walk.next l.closed_below left;
      told : (at : ℕ → Answers) → Stands at l.fn.walk → Tells q at l.fn.walk.next l.closed_below all → Tells q at l.walk.next l.closed_below left × Walks l.fn.change at l.fn.walk l.walk l.walk.next l.fn.out.items l.out.items;
      behind : Behind l.fn.out.items l.out.items;
    }
