use Rattle.std.proofs.Common.{◌≡◌, T}
use Rattle.std.specs.Ordering.{nat_cmp}
use Rattle.std.specs.FinMap.{is_sorted}
use Rattle.std.specs.Vec.Iter.{into_iter_items}
use Rattle.saber_plan.specs.Merges.{both}
use Rattle.saber_plan.specs.Parts.{merge}
use Rattle.saber_fragment.specs.Shown.{windows_by}
use Rattle.saber_parts.specs.Stored.{parts_by, CanTakeIn}
use Rattle.saber_parts.proofs.store.take_in.Given as goal

abbrev pub invariant-loop-window : goal.invariant-loop-window
invariant-loop-window g l =
    let shown = g.A.Assembles.shown in
    let left = into_iter_items l.window-iterator in
    record {
      can : (goal.iterator-loop-window g).can_next l.window-iterator;
      finite : (goal.iterator-loop-window g).is_finite l.window-iterator;
      rest : both merge (parts_by shown l.store.entries) (parts_by shown left) ≡ both merge (parts_by shown l.fn.store.entries) (parts_by shown l.fn.parts.items);
      rising : T (is_sorted nat_cmp (windows_by shown left));
      fits : CanTakeIn (g.A.Assembles.plan l.fn.by) (parts_by shown l.store.entries) (parts_by shown left);
    }
