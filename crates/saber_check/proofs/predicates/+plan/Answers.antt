use Rattle.std.proofs.Common.{◌∷◌, [], ◌++◌, ap, ◌∙◌}
use Rattle.saber_query.specs.declared.tree.Pred.{out-Pred}
use Rattle.saber_query.specs.Trees.{both_of, tests_of, query_of}
use Rattle.saber_check.proofs.Shapes.{conj_shape, pred_shape}
use Rattle.saber_check.proofs.PlanLemmas.{conj_planned, pred_planned}
use Rattle.saber_check.proofs.predicates.+plan.Goals as goal

pub plan_conj-returns : goal.plan_conj-returns
plan_conj-returns t c = conj_planned (query_of c.args.query.now) (both_of c.args.conj.now) c.args.conj.now.first c.args.conj.now.more.items _ _ _ _ c.in_ok-first.first _ (conj_shape c.args.conj.now) c.deref-unit-items.ensures.value c.in_ok-first.ensures (c.in_ok-push.ensures.items ∙ ap (λ xs. xs ++ c.in_ok-first.first ∷ []) c.new-list.ensures.items) c.from_vec.ensures c.loop-unit-test.false c.loop-unit.invariant

pub plan_pred-returns : goal.plan_pred-returns
plan_pred-returns t c = pred_planned (query_of c.args.query.now) (tests_of c.args.pred.now) (out-Pred c.args.pred.now).first (out-Pred c.args.pred.now).more.items _ _ _ _ c.in_ok-first.first _ (pred_shape c.args.pred.now) c.deref-conj-items.ensures.value c.in_ok-first.ensures (c.in_ok-push.ensures.items ∙ ap (λ xs. xs ++ c.in_ok-first.first ∷ []) c.new-list.ensures.items) c.from_vec.ensures c.loop-conj-test.false c.loop-conj.invariant
