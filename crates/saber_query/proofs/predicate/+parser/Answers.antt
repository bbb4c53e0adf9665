use Rattle.std.proofs.Common.{◌-◌, List, [], ◌∷◌, ◌++◌, refl, sym, ◌∙◌, arith}
use Rattle.std.proofs.lemmas.Result.{err_from_is_err_and}
use Rattle.saber_query.specs.declared.token.Sign.TheVariants as s
use Rattle.saber_query.specs.declared.token.Keyword.TheVariants as k
use Rattle.saber_query.specs.declared.token.Token.{Token}
use Rattle.saber_query.specs.declared.token.Token.TheVariants.{Word, Mark}
use Rattle.saber_query.specs.Words.{test_words, both_words, tests_words, ands_words, ors_words, units_words, conjs_words}
use Rattle.saber_query.specs.Trees.{test_of, both_of, tests_of, negated, enclosed_by}
use Rattle.saber_query.specs.Machine.{close_sign, unit, more_ands, more_ors}
use Rattle.saber_query.proofs.ParseLemmas.{fail_token, read_token, fail_then, fail_first, going_on, going_end, going_fails, no_and, no_or, not_takes, open_takes, preds, read_open, close_fails, units_more, units_deep, conjs_more, conjs_deep, made}
use Rattle.saber_query.specs.declared.tree.Conj.{Conj}
use Rattle.saber_query.specs.declared.tree.Pred.{Pred}
use Rattle.saber_query.specs.declared.tree.Unit.{Unit as Unit_tree}
use Rattle.saber_query.proofs.predicate.+parser.Goals as goal

pub units-returns-in_err-unit-clause-parses : goal.units-returns-in_err-unit-clause-parses
units-returns-in_err-unit-clause-parses t c =
    let p = err_from_is_err_and c.from_residual.result c.from_residual.ensures.1 in
    rw (p.1, p.2) (going_fails (more_ands c.args.left) (unit c.args.left ∷ []) (Word k.And) _ _ _ _ _ units_words (λ (u : Unit_tree). test_words (test_of u)) c.in_err-unit.field-0.0 c.loop-alloc.invariant.words refl c.loop-alloc-test.ensures.took c.in_err-unit.ensures.parses)

pub units-loop-alloc-preserved : goal.units-loop-alloc-preserved
units-loop-alloc-preserved t c = record {
  words = going_on (more_ands c.args.left) (unit c.args.left ∷ []) (Word k.And) _ _ _ _ _ _ _ c.loop-alloc.invariant.words refl c.loop-alloc-test.ensures.took c.in_ok-unit.ensures.parses
      (units_more _ _ _ c.in_ok-push.ensures.items);
  depth = units_deep _ _ _ _ c.in_ok-push.ensures.items c.loop-alloc.invariant.depth c.in_ok-unit.ensures.depth;
}

pub units-returns-clause-parses : goal.units-returns-clause-parses
units-returns-clause-parses t c = going_end (more_ands c.args.left) _ _ _ _ c.loop-alloc.invariant.words refl (no_and _ _ c.loop-alloc-test.ensures.took.1) c.loop-alloc-test.ensures.took.0

pub conjs-returns-in_err-conj-clause-parses : goal.conjs-returns-in_err-conj-clause-parses
conjs-returns-in_err-conj-clause-parses t c =
    let p = err_from_is_err_and c.from_residual.result c.from_residual.ensures.1 in
    rw (p.1, p.2) (going_fails (more_ors c.args.left) (unit c.args.left ∷ more_ands c.args.left ∷ []) (Word k.Or) _ _ _ _ _ conjs_words (λ (v : Conj). both_words (both_of v)) c.in_err-conj.field-0.0 c.loop-alloc.invariant.words refl c.loop-alloc-test.ensures.took c.in_err-conj.ensures.parses)

pub conjs-loop-alloc-preserved : goal.conjs-loop-alloc-preserved
conjs-loop-alloc-preserved t c = record {
  words = going_on (more_ors c.args.left) (unit c.args.left ∷ more_ands c.args.left ∷ []) (Word k.Or) _ _ _ _ _ _ _ c.loop-alloc.invariant.words refl c.loop-alloc-test.ensures.took c.in_ok-conj.ensures.parses
      (conjs_more _ _ _ c.in_ok-push.ensures.items);
  depth = conjs_deep _ _ _ _ c.in_ok-push.ensures.items c.loop-alloc.invariant.depth c.in_ok-conj.ensures.depth;
}

pub conjs-returns-clause-parses : goal.conjs-returns-clause-parses
conjs-returns-clause-parses t c = going_end (more_ors c.args.left) _ _ _ _ c.loop-alloc.invariant.words refl (no_or _ _ c.loop-alloc-test.ensures.took.1) c.loop-alloc-test.ensures.took.0

pub unit-returns-in_err-inner-clause-parses : goal.unit-returns-in_err-inner-clause-parses
unit-returns-in_err-inner-clause-parses t c =
    let p = err_from_is_err_and c.from_residual.result c.from_residual.ensures.1 in
    rw (p.1, p.2) (fail_token (unit c.args.left) (unit (c.args.left - 1) ∷ []) (Word k.Not) (λ (u : Unit_tree). test_words (test_of u)) (λ (u : Unit_tree). test_words (test_of u)) c.in_err-inner.field-0.0 _ _ _ (not_takes c.args.left (omega arith)) c.if-take_word.ensures.took c.in_err-inner.ensures.parses)

pub unit-returns-then-take_word-clause-parses : goal.unit-returns-then-take_word-clause-parses
unit-returns-then-take_word-clause-parses t c =
    made c.negated.result (negated (test_of c.in_ok-inner.inner)) (unit c.args.left ∷ []) _ _ c.negated.ensures.ok c.negated.ensures.err
    (read_token (unit c.args.left) (unit (c.args.left - 1) ∷ []) (Word k.Not) _ _ _ _ (not_takes c.args.left (omega arith)) c.if-take_word.ensures.took c.in_ok-inner.ensures.parses)

pub unit-returns-in_err-inner-2-clause-parses : goal.unit-returns-in_err-inner-2-clause-parses
unit-returns-in_err-inner-2-clause-parses t c =
    let p = err_from_is_err_and c.from_residual-in_err-inner-2.result c.from_residual-in_err-inner-2.ensures.1 in
    let e = c.in_err-inner-2.field-0.0 in
    rw (p.1, p.2) (fail_token (unit c.args.left) (preds (c.args.left - 1) ++ close_sign ∷ []) (Mark s.Open) (λ (u : Unit_tree). test_words (test_of u)) (λ (v : List Token). v) e _ _ _ (open_takes c.args.left (omega arith))
    (sym c.if-take_word.ensures.took.0 ∙ c.if-take_mark.ensures.took)
    (fail_first (preds (c.args.left - 1)) (close_sign ∷ []) (λ (v : List Token). v) (λ (q : Pred). tests_words (tests_of q)) e _ _ c.in_err-inner-2.ensures.parses))

pub unit-returns-in-Err-clause-parses : goal.unit-returns-in-Err-clause-parses
unit-returns-in-Err-clause-parses t c =
    let e = c.in-Err.stop in
    fail_token (unit c.args.left) (preds (c.args.left - 1) ++ close_sign ∷ []) (Mark s.Open) (λ (u : Unit_tree). test_words (test_of u)) (λ (v : List Token). v) e _ _ _ (open_takes c.args.left (omega arith))
    (sym c.if-take_word.ensures.took.0 ∙ c.if-take_mark.ensures.took)
    (fail_then (preds (c.args.left - 1)) (close_sign ∷ []) _ (λ (v : List Token). v) (λ (v : List Token). v) e _ _ _ c.in_ok-inner-2.ensures.parses
    (close_fails (Unit {0}) (λ (v : List Token). v) e _ _ c.in-Err.ensures.took))

pub unit-returns-in-Ok-clause-parses : goal.unit-returns-in-Ok-clause-parses
unit-returns-in-Ok-clause-parses t c =
    made c.enclosed.result (enclosed_by (tests_of c.in_ok-inner-2.inner)) (unit c.args.left ∷ []) _ _ c.enclosed.ensures.ok c.enclosed.ensures.err
    (let q = tests_of c.in_ok-inner-2.inner in read_open c.args.left (test_words q.first) (ands_words q.ands) (ors_words q.ors) _ _ _ _ (omega arith) (sym c.if-take_word.ensures.took.0 ∙ c.if-take_mark.ensures.took) c.in_ok-inner-2.ensures.parses c.in-Ok.ensures.took)
