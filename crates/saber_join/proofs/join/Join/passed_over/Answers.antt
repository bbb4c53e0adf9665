use Rattle.std.proofs.Common.{◌≡◌, subst, ◌<◌, ◌+◌, ◌-◌, ◌/◌, length, get_or, sym, ◌∙◌, refl, arith}
use Rattle.std.proofs.lemmas.Option.{get_or_from_slice_get}
use Rattle.saber_plan.specs.declared.plans.Plan.{Plan}
use Rattle.saber_plan.specs.Trees.{tree_of}
use Rattle.saber_plan.specs.Answers.{frame}
use Rattle.saber_plan.specs.Checked.{IsChecked}
use Rattle.saber_plan.specs.Facts.Rows.{left_small, right_small}
use Rattle.saber_laws.proofs.CheckedLaws.{checked_fit}
use Rattle.saber_join.proofs.Passing.{none_of_none, none_below}
use Rattle.saber_join.proofs.join.Join.passed_over.Goals as goal

pub returns-then-not-goes_by_time-clause-none : goal.returns-then-not-goes_by_time-clause-none
returns-then-not-goes_by_time-clause-none c = none_of_none (frame (tree_of c.args.self.now)) c.args.closed c.args.before.now

pub loop-low-init : goal.loop-low-init
loop-low-init c = record {
  order = omega arith;
  within = omega (arith, c.len-high.ensures);
  none = none_of_none (frame (tree_of c.args.self.now)) c.args.closed c.args.before.now;
}

pub reaches-requires-clause-left : goal.reaches-requires-clause-left
reaches-requires-clause-left c = left_small (tree_of c.args.self.now) c.args.before.now c.args.before.now c.args.rows.now 0 c.requires.fits refl

pub reaches-requires-clause-right : goal.reaches-requires-clause-right
reaches-requires-clause-right c = right_small (tree_of c.args.self.now) c.args.before.now c.args.before.now c.args.rows.now 0 c.requires.fits refl

pub loop-low-preserved : goal.loop-low-preserved
loop-low-preserved c =
    let q = tree_of c.args.self.now in
    let m = c.args.before.now in
    let rows = c.args.rows.now in
    let r = c.row.result in
    let middle = c.loop-low.low + (c.loop-low.high - c.loop-low.low) / 2 in
    let test = c.loop-low-test.true in
    let h = c.loop-low.invariant in
    let below : middle < length rows = omega (arith, test, h.within) in
    let at : get_or rows middle r ≡ r = get_or_from_slice_get rows middle r r (sym c.row.ensures) in
    record {
      order = omega (arith, test);
      within = h.within;
      none = none_below (frame q) (c.goes_by_time.ensures c.if-not-goes_by_time.false) (checked_fit q (subst (λ (p : Plan). IsChecked (tree_of p)) c.self.view_is c.self.invariant.0)) c.args.closed m m rows middle r below at c.requires.fits.ordered (sym c.reaches.ensures ∙ c.if-reaches.false);
    }
