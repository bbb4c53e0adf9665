use Rattle.saber_plan.specs.Trees.{test_of, tests_of}
use Rattle.saber_plan.specs.Values.{column_of}
use Rattle.saber_eval.specs.Widths.{widths}
use Rattle.saber_eval.proofs.Truths.{alone_holds, compare_holds}
use Rattle.saber_eval.proofs.predicates.predicate_holds.Goals as goal

pub returns-in-Some-singles_compared : goal.returns-in-Some-singles_compared
returns-in-Some-singles_compared c =
    let at = column_of c.args.left.now c.args.right.now in
    let columns = widths c.args.left.now c.args.right.now in
    alone_holds at columns (tests_of c.args.p.now) (test_of c.in-Some.u.now) _ c.in-Some.ensures (compare_holds at c.in-Some.u.now c.in-Compare.x c.in-Compare.cmp c.in-Compare.y _ c.in-Compare.is c.in-Some-singles_compared.ensures)
