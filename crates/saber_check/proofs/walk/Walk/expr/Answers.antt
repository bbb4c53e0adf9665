use Rattle.std.proofs.Common.{◌≡◌, ◌+◌, List, ap, arith}
use Rattle.saber_query.specs.declared.tree.Expr.{Expr}
use Rattle.saber_query.specs.declared.tree.Term.{Term}
use Rattle.saber_check.specs.declared.fault.Fault.{Fault}
use Rattle.saber_check.specs.declared.walk.Walk.{Walk}
use Rattle.saber_check.specs.Widths.{prod_width, term_width, expr_width, span}
use Rattle.saber_check.specs.Bounds.{products}
use Rattle.saber_check.specs.Walked.{prods, sum_faults, prod_faults, expr_faults}
use Rattle.saber_check.specs.Least.{Visits, each, least, earlier}
use Rattle.saber_check.proofs.Lemmas.{each_more, walking}
use Rattle.saber_query.specs.Trees.{Query}
use Rattle.saber_check.proofs.walk.Walk.expr.Goals as goal

visited : (q : Query) (e : Expr) (ts : List Term) (a b c d : Walk) (xs : List Fault) → ts ≡ e.more → Visits a b (prod_width e.first) (prod_faults q a.index e.first) → Visits b c (span term_width ts) (each prod_width (λ k. prod_faults q) 1 (b.index + 1) (prods ts)) → xs ≡ sum_faults 0 a.index (products e) → Visits c d 0 xs → Visits a d (expr_width e) (expr_faults q a.index e)
unfolding expr_faults
visited q e ts a b c d xs h u v s w =
    let m = each_more prod_width (λ k. prod_faults q) 0 a.index e.first (prods e.more) in
    let p : c.least ≡ earlier a.least (least (each prod_width (λ k. prod_faults q) 0 a.index (products e))) = grind (arith, walking, m, h, u.place, u.least, v.least) in
    record { place = omega (arith, u.place, v.place, w.place, ap (span term_width) h); least = grind (arith, walking, p, s, w.least) }

pub returns : goal.returns
returns c = visited _ c.args.expr.now _ _ _ _ _ _ c.as_slice.ensures c.prod.ensures c.terms.ensures c.sum_passes.ensures c.report_at.ensures
