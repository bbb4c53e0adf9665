use Rattle.std.proofs.Common.{sym, ◌∙◌, ap, subst}
use Rattle.std.specs.FinMap.{empty}
use Rattle.saber_plan.specs.declared.plans.Plan.{Plan}
use Rattle.saber_plan.specs.Trees.{tree_of}
use Rattle.saber_plan.specs.Answers.{frame}
use Rattle.saber_plan.specs.Checked.{IsChecked}
use Rattle.saber_plan.specs.Facts.Counts.{none_closed}
use Rattle.saber_changes.specs.Outputs.{way_by, IsBefore}
use Rattle.saber_laws.proofs.CheckedLaws.{checked_fit}
use Rattle.saber_parts.specs.Stored.{parts_by}
use Rattle.saber_select.specs.Found.{part_of}
use Rattle.saber_select.proofs.windowed.WindowedSelect.no_parts.Goals as goal

pub returns-clause-contents : goal.returns-clause-contents
returns-clause-contents c = λ j. record { parts = parts_by part_of (c.new.ensures.parts j); lists = empty; answers = c.new.ensures.last j }

pub returns-clause-taken : goal.returns-clause-taken
returns-clause-taken c =
    let q = tree_of c.args.self.now in
    let fits = checked_fit q (subst (λ (p : Plan). IsChecked (tree_of p)) c.self.view_is c.self.invariant.0) in
    record {
      way_is = c.requires ∙ ap way_by (sym c.new.ensures.change);
      is_before = subst (IsBefore c.new.result.output) (sym (none_closed (frame q) fits)) c.new.ensures.before;
    }
