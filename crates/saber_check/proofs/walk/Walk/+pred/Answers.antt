use Rattle.std.proofs.Common.{◌≡◌, refl, ap, ◌∙◌}
use Rattle.saber_query.specs.declared.tree.Pred.{out-Pred}
use Rattle.saber_query.specs.Trees.{test_of, both_of, tests_of, negated, enclosed_by, query_of}
use Rattle.saber_check.proofs.Lemmas.{going_step}
use Rattle.saber_check.proofs.PredLemmas.{unit_width, unit_faults, conj_width, conj_faults, not_visited, enclosed_visited, conj_visited, pred_visited, conj_room, pred_room}
use Rattle.saber_check.proofs.Shapes.{not_shape, enclosed_shape, conj_shape, pred_shape}
use Rattle.saber_check.proofs.walk.Walk.+pred.Goals as goal

pub conj-loop-unit-init : goal.conj-loop-unit-init
conj-loop-unit-init t c =
    let e = conj_shape c.args.conj.now in
    record {
      going = record { place = refl; least = refl };
      room = conj_room (both_of c.args.conj.now) (test_of c.args.conj.now.first) c.args.conj.now.more.items _ _ _ _ e c.deref-unit-items.ensures.value c.requires c.unit.ensures;
    }

pub conj-loop-unit-preserved : goal.conj-loop-unit-preserved
conj-loop-unit-preserved t c = record {
  going = going_step unit_width (unit_faults (query_of c.args.query.now)) 1 _ _ c.unit-item.result _ _ _ _ c.loop-unit-test.true c.unit-item.is c.loop-unit.invariant.going c.skip.ensures c.unit-in-loop-unit.ensures;
  room = c.loop-unit.invariant.room;
}

pub conj-returns : goal.conj-returns
conj-returns t c =
    let e = conj_shape c.args.conj.now in
    conj_visited (query_of c.args.query.now) (both_of c.args.conj.now) (test_of c.args.conj.now.first) c.args.conj.now.more.items _ _ _ _ _ e c.deref-unit-items.ensures.value c.unit.ensures c.loop-unit-test.false c.loop-unit.invariant.going

pub unit-returns-in-Not : goal.unit-returns-in-Not
unit-returns-in-Not t c =
    let e : test_of c.args.unit.now ≡ negated (test_of c.in-Not.inner.value) = ap test_of c.in-Not.is ∙ not_shape c.in-Not.inner in
    not_visited (query_of c.args.query.now) (test_of c.args.unit.now) (test_of c.in-Not.inner.value) _ _ _ e c.skip.ensures (rw c.deref.ensures at c.unit.ensures)

pub unit-returns-in-Enclosed : goal.unit-returns-in-Enclosed
unit-returns-in-Enclosed t c =
    let e : test_of c.args.unit.now ≡ enclosed_by (tests_of c.in-Enclosed.inner.value) = ap test_of c.in-Enclosed.is ∙ enclosed_shape c.in-Enclosed.inner in
    enclosed_visited (query_of c.args.query.now) (test_of c.args.unit.now) (tests_of c.in-Enclosed.inner.value) _ _ _ _ e c.skip-in-Enclosed.ensures (rw c.deref-in-Enclosed.ensures at c.pred.ensures) c.skip-in-Enclosed-2.ensures

pub pred-loop-conj-init : goal.pred-loop-conj-init
pred-loop-conj-init t c =
    let e = pred_shape c.args.pred.now in
    record {
      going = record { place = refl; least = refl };
      room = pred_room (tests_of c.args.pred.now) (both_of (out-Pred c.args.pred.now).first) (out-Pred c.args.pred.now).more.items _ _ _ _ e c.deref-conj-items.ensures.value c.requires c.conj.ensures;
    }

pub pred-loop-conj-preserved : goal.pred-loop-conj-preserved
pred-loop-conj-preserved t c = record {
  going = going_step conj_width (conj_faults (query_of c.args.query.now)) 1 _ _ c.conj-item.result _ _ _ _ c.loop-conj-test.true c.conj-item.is c.loop-conj.invariant.going c.skip.ensures c.conj-in-loop-conj.ensures;
  room = c.loop-conj.invariant.room;
}

pub pred-returns : goal.pred-returns
pred-returns t c =
    let e = pred_shape c.args.pred.now in
    pred_visited (query_of c.args.query.now) (tests_of c.args.pred.now) (both_of (out-Pred c.args.pred.now).first) (out-Pred c.args.pred.now).more.items _ _ _ _ _ e c.deref-conj-items.ensures.value c.conj.ensures c.loop-conj-test.false c.loop-conj.invariant.going
