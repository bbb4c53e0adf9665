use Rattle.std.proofs.Common.{drop, refl, sym, ◌∙◌, ap, subst, arith}
use Rattle.saber_plan.specs.Trees.{tree_of}
use Rattle.saber_plan.specs.Facts.Rows.{few_rows}
use Rattle.saber_group.specs.SliceLists.{CanEnter, EnteredFirstFrom}
use Rattle.saber_group.specs.SliceParts.{Holds}
use Rattle.saber_group.proofs.Gathered.{Gathered, gathered_nil, gathered_can, gathered_more, gathered_all, gathered_few}
use Rattle.saber_group.proofs.SlicesGiven.{some_left, none_left}
use Rattle.saber_group.proofs.GroupPlans.{has_window}
use Rattle.saber_group.proofs.group.Group.open_behind.Goals as goal

pub loop-rest-init : goal.loop-rest-init
loop-rest-init g c =
    let e = c.args.earlier.now in
    gathered_nil (tree_of c.args.self.now) e.before e.rows.now c.args.low c.in_ok-slices.slices c.in_ok-slices.slices c.empty-front.result refl c.empty-front.ensures c.in_ok-slices.ensures.slices

pub wait_first-requires : goal.wait_first-requires
wait_first-requires g c =
    let q = tree_of c.args.self.now in
    let e = c.args.earlier.now in
    let w = (has_window c.args.self.now c.self.view_is c.self.invariant.0 c.self.invariant.1).window in
    let few = few_rows q w.stream w.streams e.before e.rows.now c.requires.fits in
    let long = c.len.ensures in
    let (r, left, is) = some_left c.loop-rest.rest (omega (arith, long, c.loop-rest-test.true)) in
    subst (λ l. CanEnter l c.loop-rest.front) (sym is)
    (gathered_can q e.before e.rows.now c.args.low r left c.loop-rest.front few (subst (λ l. Gathered q e.before e.rows.now c.args.low l c.loop-rest.front) is c.loop-rest.invariant))

pub loop-rest-preserved : goal.loop-rest-preserved
loop-rest-preserved g c =
    let q = tree_of c.args.self.now in
    let e = c.args.earlier.now in
    let window = has_window c.args.self.now c.self.view_is c.self.invariant.0 c.self.invariant.1 in
    let few = few_rows q window.window.stream window.window.streams e.before e.rows.now c.requires.fits in
    let long = c.len.ensures in
    let (r, left, is) = some_left c.loop-rest.rest (omega (arith, long, c.loop-rest-test.true)) in
    let entered = subst (λ l. EnteredFirstFrom c.args.low l c.loop-rest.front c.wait_first.new.front) is c.in-Ok.ensures.entered in
    subst (λ l. Gathered q e.before e.rows.now c.args.low l c.wait_first.new.front) (sym (c.in-Ok.ensures.rest ∙ ap (drop 1) is))
    (gathered_more q e.before e.rows.now c.args.low r left c.loop-rest.front few
    (subst (λ l. Gathered q e.before e.rows.now c.args.low l c.loop-rest.front) is c.loop-rest.invariant)
    window.fits c.requires.fits c.requires.low c.wait_first.new.front entered)

pub returns-clause-slices : goal.returns-clause-slices
returns-clause-slices g c =
    let q = tree_of c.args.self.now in
    let e = c.args.earlier.now in
    let long = c.len.ensures in
    let none = none_left c.loop-rest.rest (omega (arith, long, c.loop-rest-test.false)) in
    subst (Holds q e.before e.rows.now c.args.low) (sym c.in_ok-into_queue.ensures.entries)
    (gathered_all q e.before e.rows.now c.args.low c.loop-rest.front (subst (λ l. Gathered q e.before e.rows.now c.args.low l c.loop-rest.front) none c.loop-rest.invariant))

pub returns-clause-steps : goal.returns-clause-steps
returns-clause-steps g c =
    let q = tree_of c.args.self.now in
    let e = c.args.earlier.now in
    let long = c.len.ensures in
    let none = none_left c.loop-rest.rest (omega (arith, long, c.loop-rest-test.false)) in
    let few = gathered_few q e.before e.rows.now c.args.low c.loop-rest.front (subst (λ l. Gathered q e.before e.rows.now c.args.low l c.loop-rest.front) none c.loop-rest.invariant) in
    let used = c.in_ok-into_queue.ensures.steps in
    omega (arith, few, used)
