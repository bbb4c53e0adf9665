use Rattle.std.proofs.Common.{drop}
use Rattle.saber_plan.specs.Trees.{test_of, both_of, tests_of}
use Rattle.saber_plan.specs.Values.{column_of}
use Rattle.saber_eval.specs.Widths.{widths}
use Rattle.saber_eval.proofs.Truths.{test_size, both_size, tests_size, Left_all, Left_some}
use Rattle.saber_eval.proofs.predicates.+pred.Given as goal

abbrev pub decreases-all_hold : goal.decreases-all_hold
decreases-all_hold l = both_size (both_of l.c.now)

abbrev pub decreases-some_hold : goal.decreases-some_hold
decreases-some_hold l = tests_size (tests_of l.p.now)

abbrev pub decreases-test_holds : goal.decreases-test_holds
decreases-test_holds l = test_size (test_of l.u.now)

abbrev pub invariant-all_hold-loop-u : goal.invariant-all_hold-loop-u
invariant-all_hold-loop-u l = Left_all (column_of l.left l.right) (widths l.left l.right) (both_of l.fn.c) (drop l.u-index l.u-items)

abbrev pub invariant-some_hold-loop-c : goal.invariant-some_hold-loop-c
invariant-some_hold-loop-c l = Left_some (column_of l.left l.right) (widths l.left l.right) (tests_of l.fn.p) (drop l.c-index l.c-items)
