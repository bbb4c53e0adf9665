use Rattle.std.proofs.Common.{◌∙◌, sym, ap}
use Rattle.saber_plan.specs.Trees.{test_of, both_of, tests_of}
use Rattle.saber_plan.specs.Values.{column_of, test_holds}
use Rattle.saber_eval.specs.Widths.{widths}
use Rattle.saber_eval.proofs.Truths.{all_false, all_more, all_true, some_true, some_more, some_false, not_holds, any_holds, compare_holds}
use Rattle.saber_eval.proofs.predicates.+pred.Goals as goal

pub all_hold-returns-then-not-test_holds : goal.all_hold-returns-then-not-test_holds
all_hold-returns-then-not-test_holds t c = all_false (column_of c.args.left.now c.args.right.now) (widths c.args.left.now c.args.right.now) (both_of c.args.c.now) c.u-item.result c.as_slice-u-items.result.now c.loop-u.u-index c.loop-u-test.true c.u-item.is (sym c.test_holds.ensures ∙ c.if-not-test_holds.true) c.loop-u.invariant

pub all_hold-loop-u-preserved : goal.all_hold-loop-u-preserved
all_hold-loop-u-preserved t c = all_more (column_of c.args.left.now c.args.right.now) (widths c.args.left.now c.args.right.now) (both_of c.args.c.now) c.u-item.result c.as_slice-u-items.result.now c.loop-u.u-index c.loop-u-test.true c.u-item.is (sym c.test_holds.ensures ∙ c.if-not-test_holds.false) c.loop-u.invariant

pub all_hold-returns : goal.all_hold-returns
all_hold-returns t c = all_true (column_of c.args.left.now c.args.right.now) (widths c.args.left.now c.args.right.now) (both_of c.args.c.now) c.as_slice-u-items.result.now c.loop-u.u-index c.loop-u-test.false c.loop-u.invariant

pub some_hold-returns-then-all_hold : goal.some_hold-returns-then-all_hold
some_hold-returns-then-all_hold t c = some_true (column_of c.args.left.now c.args.right.now) (widths c.args.left.now c.args.right.now) (tests_of c.args.p.now) c.c-item.result c.as_slice-c-items.result.now c.loop-c.c-index c.loop-c-test.true c.c-item.is (sym c.all_hold.ensures ∙ c.if-all_hold.true) c.loop-c.invariant

pub some_hold-loop-c-preserved : goal.some_hold-loop-c-preserved
some_hold-loop-c-preserved t c = some_more (column_of c.args.left.now c.args.right.now) (widths c.args.left.now c.args.right.now) (tests_of c.args.p.now) c.c-item.result c.as_slice-c-items.result.now c.loop-c.c-index c.loop-c-test.true c.c-item.is (sym c.all_hold.ensures ∙ c.if-all_hold.false) c.loop-c.invariant

pub some_hold-returns : goal.some_hold-returns
some_hold-returns t c = some_false (column_of c.args.left.now c.args.right.now) (widths c.args.left.now c.args.right.now) (tests_of c.args.p.now) c.as_slice-c-items.result.now c.loop-c.c-index c.loop-c-test.false c.loop-c.invariant

pub test_holds-returns-in-Not : goal.test_holds-returns-in-Not
test_holds-returns-in-Not t c = not_holds (column_of c.args.left.now c.args.right.now) c.args.u.now c.in-Not.inner _ c.in-Not.is (c.test_holds.ensures ∙ ap (λ u. test_holds (column_of c.args.left.now c.args.right.now) (test_of u)) c.deref.ensures)

pub test_holds-returns-in-Any : goal.test_holds-returns-in-Any
test_holds-returns-in-Any t c = any_holds (column_of c.args.left.now c.args.right.now) c.args.u.now c.in-Any.inner _ c.in-Any.is c.some_hold.ensures

pub test_holds-returns-in-Compare : goal.test_holds-returns-in-Compare
test_holds-returns-in-Compare t c = compare_holds (column_of c.args.left.now c.args.right.now) c.args.u.now c.in-Compare.x c.in-Compare.cmp c.in-Compare.y _ c.in-Compare.is c.compared.ensures
