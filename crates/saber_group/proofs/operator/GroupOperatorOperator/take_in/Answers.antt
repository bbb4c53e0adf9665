use Rattle.std.proofs.Common.{ap}
use Rattle.saber_plan.specs.Trees.{tree_of}
use Rattle.saber_group.specs.declared.slice_stores.SliceStore.{SliceStore}
use Rattle.saber_group.proofs.Keeping.{can_take, may_answer, took}
use Rattle.saber_group.proofs.operator.GroupOperatorOperator.take_in.Goals as goal

pub take_uncounted-requires-clause-comes : goal.take_uncounted-requires-clause-comes
take_uncounted-requires-clause-comes c =
    let (r, x, y, f) = c.requires in
    can_take (tree_of c.self.inside.group) (tree_of c.args.self.now) (ap tree_of c.self.view_is) r x y c.args.store.now c.args.piece c.closed_below-closed.result c.closed_below-closed.ensures f

pub take_uncounted-requires-clause-before : goal.take_uncounted-requires-clause-before
take_uncounted-requires-clause-before c = let (r, x, y, f) = c.requires in f.taken_is.is_before

pub take_uncounted-requires-clause-answering : goal.take_uncounted-requires-clause-answering
take_uncounted-requires-clause-answering c = let (r, x, y, f) = c.requires in may_answer (tree_of c.args.self.now) r x y c.args.store.now c.args.piece f

pub returns-clause-text : goal.returns-clause-text
returns-clause-text c r x y f =
    let new : SliceStore = record { windows = c.take_uncounted.new.store; begun = c.begun_below-begun.result; output = c.take_uncounted.new.output } in
    (took (tree_of c.self.inside.group) c.self.invariant.1 c.args.store.now c.args.piece c.closed_below-closed.result c.closed_below-closed.ensures new c.begun_below-begun.ensures
    c.args.out.now.items c.take_uncounted.new.out.items c.in_ok-take_uncounted.ensures.come (tree_of c.args.self.now) (ap tree_of c.self.view_is) r x y f).adds

pub returns-clause-stays : goal.returns-clause-stays
returns-clause-stays c r x y f =
    let new : SliceStore = record { windows = c.take_uncounted.new.store; begun = c.begun_below-begun.result; output = c.take_uncounted.new.output } in
    (took (tree_of c.self.inside.group) c.self.invariant.1 c.args.store.now c.args.piece c.closed_below-closed.result c.closed_below-closed.ensures new c.begun_below-begun.ensures
    c.args.out.now.items c.take_uncounted.new.out.items c.in_ok-take_uncounted.ensures.come (tree_of c.args.self.now) (ap tree_of c.self.view_is) r x y f).stays

pub returns-clause-taken : goal.returns-clause-taken
returns-clause-taken c r x y f =
    let new : SliceStore = record { windows = c.take_uncounted.new.store; begun = c.begun_below-begun.result; output = c.take_uncounted.new.output } in
    (took (tree_of c.self.inside.group) c.self.invariant.1 c.args.store.now c.args.piece c.closed_below-closed.result c.closed_below-closed.ensures new c.begun_below-begun.ensures
    c.args.out.now.items c.take_uncounted.new.out.items c.in_ok-take_uncounted.ensures.come (tree_of c.args.self.now) (ap tree_of c.self.view_is) r x y f).taken

pub returns-clause-behind : goal.returns-clause-behind
returns-clause-behind c = c.take_uncounted.ensures.behind

pub returns-in_err-take_uncounted-clause-behind : goal.returns-in_err-take_uncounted-clause-behind
returns-in_err-take_uncounted-clause-behind c = c.take_uncounted.ensures.behind
