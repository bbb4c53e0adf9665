use Rattle.std.proofs.Common.{refl, sym, ◌∙◌, ap, subst}
use Rattle.std.specs.FinMap.{empty}
use Rattle.saber_plan.specs.Trees.{tree_of}
use Rattle.saber_plan.specs.Answers.{frame}
use Rattle.saber_plan.specs.Facts.Counts.{none_begun}
use Rattle.saber_plan.specs.Windows.{no_rows}
use Rattle.saber_changes.specs.Outputs.{way_by, IsBefore}
use Rattle.saber_group.specs.declared.slice_stores.SliceStore.{SliceStore}
use Rattle.saber_group.proofs.Opened.{holds_nil}
use Rattle.saber_group.proofs.SliceKeeping.{none_closed, nothing_held}
use Rattle.saber_group.proofs.GroupPlans.{has_window}
use Rattle.saber_group.proofs.group.Group.no_slices.Goals as goal

pub returns-clause-contents : goal.returns-clause-contents
returns-clause-contents c =
    let store : SliceStore = record { windows = c.new.result; begun = 0; output = c.new-2.result } in
    let none = nothing_held store c.new.ensures.next refl in
    λ j. record { parts = none j; lists = empty; answers = c.new-2.ensures.last j }

pub returns-clause-taken : goal.returns-clause-taken
returns-clause-taken c =
    let q = tree_of c.args.self.now in
    record {
      holds = holds_nil q no_rows c.new.result.next c.new.result.slices.entries c.new.ensures.slices;
      next_is = c.new.ensures.next ∙ none_closed q (has_window c.args.self.now c.self.view_is c.self.invariant.0 c.self.invariant.1).window;
      begun_is = sym (none_begun (frame q));
      way_is = c.requires ∙ ap way_by (sym c.new-2.ensures.change);
      is_before = subst (IsBefore c.new-2.result) (sym c.new.ensures.next) c.new-2.ensures.before;
    }
