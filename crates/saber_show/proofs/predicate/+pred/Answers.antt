use Rattle.std.proofs.Common.{◌∷◌, [], refl, sym, ap, append_assoc}
use Rattle.saber_query.specs.declared.token.Keyword.TheVariants as k
use Rattle.saber_query.specs.declared.token.Token.TheVariants.{Word}
use Rattle.saber_query.specs.declared.tree.Pred.{out-Pred}
use Rattle.saber_query.specs.Trees.{test_of, both_of, tests_of}
use Rattle.saber_query.specs.Words.{test_words, both_words, ands_words}
use Rattle.saber_show.proofs.Shapes.{conj_shape, pred_shape}
use Rattle.saber_show.proofs.SpellLemmas.{units, conjs, part_written, conj_written, pred_written}
use Rattle.saber_show.proofs.predicate.+pred.Goals as goal

pub conj-loop-next-preserved : goal.conj-loop-next-preserved
conj-loop-next-preserved t c = part_written units c.deref-next-items.result.now c.loop-next.next-index c.next-item.result (Word k.And ∷ []) (test_words (test_of c.next-item.result)) _ _ _ _ c.loop-next-test.true c.next-item.is (λ ys. refl) c.loop-next.invariant c.in_ok-word.ensures c.in_ok-unit-2.ensures

pub conj-returns : goal.conj-returns
conj-returns t c = conj_written (both_of c.args.tree.now) (test_of c.args.tree.now.first) c.args.tree.now.more.items _ c.loop-next.next-index _ _ _ (conj_shape c.args.tree.now) c.deref-next-items.ensures.value c.in_ok-unit.ensures c.loop-next-test.false c.loop-next.invariant

pub pred-loop-next-preserved : goal.pred-loop-next-preserved
pred-loop-next-preserved t c =
    let b = both_of c.next-item.result in
    part_written conjs c.deref-next-items.result.now c.loop-next.next-index c.next-item.result (Word k.Or ∷ []) (both_words b) _ _ _ _ c.loop-next-test.true c.next-item.is (λ ys. ap (λ z. Word k.Or ∷ z) (sym (append_assoc (test_words b.first) (ands_words b.ands) (conjs ys)))) c.loop-next.invariant c.in_ok-word.ensures c.in_ok-conj-2.ensures

pub pred-returns : goal.pred-returns
pred-returns t c = pred_written (tests_of c.args.tree.now) (both_of (out-Pred c.args.tree.now).first) (out-Pred c.args.tree.now).more.items _ c.loop-next.next-index _ _ _ (pred_shape c.args.tree.now) c.deref-next-items.ensures.value c.in_ok-conj.ensures c.loop-next-test.false c.loop-next.invariant
