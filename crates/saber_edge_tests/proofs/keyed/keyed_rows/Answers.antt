use Rattle.std.proofs.Common.{◌≡◌, ◌∙◌, [], ◌∷◌, ◌++◌, true, refl, sym, ap, subst}
use Rattle.saber_plan.specs.Windows.{can_follow, mark_after}
use Rattle.saber_edge_tests.specs.Filling.{HasKeyed, CanCome}
use Rattle.saber_edge_tests.proofs.Coming.{come_none, come_more, mark_next, stepped, keyed_row_of}
use Rattle.saber_edge_tests.proofs.keyed.keyed_rows.Goals as goal

pub loop-time-init : goal.loop-time-init
loop-time-init c = record {
  mark = sym (ap (mark_after c.args.before.now) c.new-rows.ensures);
  fits = come_none HasKeyed c.args.before.now c.new-rows.result c.new-rows.ensures;
}

pub loop-time-preserved : goal.loop-time-preserved
loop-time-preserved c =
    let x = c.in_ok-row.row in
    let xs = c.loop-time.rows in
    let n = c.loop-time.mark in
    let b = c.args.before.now in
    let fits_row = c.in_ok-row.ensures.0 in
    let same = c.in_ok-row.ensures.1 in
    let can = c.if-not-follows.ensures in
    let e = c.step-mark.ensures in
    let next : c.push.new.self ≡ xs ++ x ∷ [] = c.in_ok-push.ensures.ok ∙ ap (λ r. xs ++ r ∷ []) c.of.ensures in
    record {
      mark = stepped n c.step-mark.result x _ fits_row.own same e.left e.right e.last e.ended
          ∙ mark_next b n xs x c.loop-time.invariant.mark ∙ sym (ap (mark_after b) next);
      fits = subst (CanCome HasKeyed b) (sym next)
          (come_more HasKeyed b n xs x c.loop-time.invariant.mark (keyed_row_of x fits_row)
          (subst (λ t. can_follow n t ≡ true) (sym same) (can.order refl)) (can.left refl) (can.right refl) c.loop-time.invariant.fits);
    }
