use Rattle.std.proofs.Common.{◌≡◌, ◌++◌}
use Rattle.saber_plan.specs.Texts.{Behind}
use Rattle.saber_fragment.specs.Shown.{windows_by}
use Rattle.saber_parts.specs.Stored.{closed_of, lines_of}
use Rattle.saber_parts.proofs.store.write_closed.Given as goal

abbrev pub invariant-loop-window : goal.invariant-loop-window
invariant-loop-window g l =
    let q = g.A.Assembles.plan l.fn.by in
    let shown = g.A.Assembles.shown in
    record {
      can : (goal.iterator-loop-window g).can_next l.window-iterator;
      finite : (goal.iterator-loop-window g).is_finite l.window-iterator;
      rest : l.out.items ++ lines_of q (windows_by shown l.window-iterator) ≡ l.fn.out.items ++ lines_of q (windows_by shown (closed_of l.closed_below l.fn.parts.entries));
      behind : Behind l.fn.out.items l.out.items;
    }
