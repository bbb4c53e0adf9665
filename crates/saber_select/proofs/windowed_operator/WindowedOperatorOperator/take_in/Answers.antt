use Rattle.std.proofs.Common.{sym, subst}
use Rattle.saber_plan.specs.declared.plans.Plan.{Plan}
use Rattle.saber_plan.specs.Trees.{tree_of}
use Rattle.saber_fragment.specs.Shown.{shares_of}
use Rattle.saber_fragment.specs.Stores.{AddsText, CanTakeIn, LeavesKept, TakesIn}
use Rattle.saber_parts.specs.Stored.{parts_by, parts_from}
use Rattle.saber_parts.specs.Taking.{kept_by, HasTaken, IsGiven}
use Rattle.saber_select.specs.Found.{part_of}
use Rattle.saber_select.proofs.windowed_operator.WindowedOperatorOperator.take_in.Goals as goal

pub take_in-requires : goal.take_in-requires
take_in-requires c =
    let kept = kept_by (parts_by part_of c.args.store.now.parts.entries) c.args.store.now.output in
    subst (λ (p : Plan). CanTakeIn (tree_of p) kept (HasTaken (tree_of p) c.args.store.now.output) (IsGiven (tree_of p) (shares_of part_of c.args.piece))) (sym c.self.view_is) c.requires

pub returns-clause-text : goal.returns-clause-text
returns-clause-text c =
    let kept = kept_by (parts_by part_of c.args.store.now.parts.entries) c.args.store.now.output in
    subst (λ (p : Plan). AddsText (tree_of p) kept (HasTaken (tree_of p) c.args.store.now.output) (IsGiven (tree_of p) (shares_of part_of c.args.piece)) c.args.out.now.items c.take_in.new.out.items) c.self.view_is c.in_ok-take_in.ensures.text

pub returns-clause-stays : goal.returns-clause-stays
returns-clause-stays c =
    let kept = kept_by (parts_by part_of c.args.store.now.parts.entries) c.args.store.now.output in
    let new = c.take_in.new.self in
    subst (λ (p : Plan). LeavesKept (tree_of p) kept (HasTaken (tree_of p) c.args.store.now.output) (IsGiven (tree_of p) (shares_of part_of c.args.piece)) (kept_by (parts_from part_of new.closed_below new.parts.entries) new.output)) c.self.view_is c.in_ok-take_in.ensures.stays

pub returns-clause-taken : goal.returns-clause-taken
returns-clause-taken c =
    let kept = kept_by (parts_by part_of c.args.store.now.parts.entries) c.args.store.now.output in
    let new = c.take_in.new.self in
    subst (λ (p : Plan). TakesIn (tree_of p) kept (HasTaken (tree_of p) c.args.store.now.output) (IsGiven (tree_of p) (shares_of part_of c.args.piece)) (HasTaken (tree_of p) new.output)) c.self.view_is c.in_ok-take_in.ensures.taken
