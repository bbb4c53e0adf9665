use Rattle.std.proofs.Common.{◌≡◌, ◌++◌, []}
use Rattle.saber_plan.specs.Needs.{is_pending, is_opening}
use Rattle.saber_plan.specs.Shares.{is_closed}
use Rattle.saber_fragment.specs.Shown.{windows_by}
use Rattle.saber_parts.specs.Entries.{entries_by}
use Rattle.saber_parts.proofs.pieces.gather_on.Given as goal

abbrev pub invariant-loop-window : goal.invariant-loop-window
invariant-loop-window g l =
    let shown = g.A.Assembles.shown in
    record {
      can : (goal.iterator-loop-window g).can_next l.window-iterator;
      finite : (goal.iterator-loop-window g).is_finite l.window-iterator;
      closing : windows_by shown l.gathered.closing ++ entries_by is_closed l.bounds (windows_by shown l.window-iterator) ≡ entries_by is_closed l.bounds (windows_by shown l.fn.windows.entries);
      pending : windows_by shown l.gathered.pending ++ entries_by is_pending l.bounds (windows_by shown l.window-iterator) ≡ entries_by is_pending l.bounds (windows_by shown l.fn.windows.entries);
      opening : windows_by shown l.gathered.opening ++ entries_by is_opening l.bounds (windows_by shown l.window-iterator) ≡ entries_by is_opening l.bounds (windows_by shown l.fn.windows.entries);
      text : l.gathered.text.items ≡ [];
    }
