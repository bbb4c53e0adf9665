use Rattle.std.proofs.Common.{◌≡◌, ◌<◌, ◌+◌, ◌∙◌, ◌++◌, [], ◌∷◌, length, get_or, take, sym, ap, subst, refl, arith}
use Rattle.std.proofs.lemmas.Option.{get_or_from_slice_get}
use Rattle.std.proofs.lemmas.List.{take_more, take_all}
use Rattle.saber_plan.specs.declared.windows.Mark.{Mark}
use Rattle.saber_plan.specs.declared.plans.Plan.{Plan}
use Rattle.saber_plan.specs.Trees.{tree_of}
use Rattle.saber_plan.specs.Checked.{IsChecked}
use Rattle.saber_plan.specs.Windows.{step_mark}
use Rattle.saber_plan.specs.Facts.Rows.{left_small, right_small, mark_more, row_at}
use Rattle.saber_select.specs.Open.{seen_windows, Takes, HoldsFrom}
use Rattle.saber_select.proofs.Task.{none_yet, row_taken, all_earlier}
use Rattle.saber_laws.proofs.CheckedLaws.{checked_fit}
use Rattle.saber_select.proofs.windowed.WindowedSelect.windows_of.Goals as goal

pub loop-i-init : goal.loop-i-init
loop-i-init c = record {
  lately = c.lately-lately.ensures;
  mark = refl;
  rows = none_yet (tree_of c.args.self.now) c.closed_below-closed.result c.args.before.now c.new-windows.result.entries c.new-windows.ensures.empty;
}

pub take_row-requires-clause-left : goal.take_row-requires-clause-left
take_row-requires-clause-left c = left_small (tree_of c.args.self.now) c.args.before.now c.loop-i.mark c.args.rows.now c.loop-i.i c.requires c.loop-i.invariant.mark

pub take_row-requires-clause-right : goal.take_row-requires-clause-right
take_row-requires-clause-right c = right_small (tree_of c.args.self.now) c.args.before.now c.loop-i.mark c.args.rows.now c.loop-i.i c.requires c.loop-i.invariant.mark

pub take_row-requires-clause-row : goal.take_row-requires-clause-row
take_row-requires-clause-row c =
    let k = c.loop-i.i in
    let r = c.row-row.result in
    let rows = c.args.rows.now in
    let below : k < length rows = omega (arith, c.loop-i-test.true) in
    row_at (tree_of c.args.self.now) c.args.before.now rows k r below (sym (get_or_from_slice_get rows k r r (sym c.row-row.ensures))) c.requires

pub take_row-requires-clause-earlier : goal.take_row-requires-clause-earlier
take_row-requires-clause-earlier c =
    all_earlier (tree_of c.args.self.now) c.closed_below-closed.result c.args.before.now c.loop-i.mark (take c.loop-i.i c.args.rows.now) c.row-row.result (seen_windows c.loop-i.windows.entries) c.loop-i.invariant.mark c.loop-i.invariant.rows

pub step-mark-requires-clause-left : goal.step-mark-requires-clause-left
step-mark-requires-clause-left c = left_small (tree_of c.args.self.now) c.args.before.now c.loop-i.mark c.args.rows.now c.loop-i.i c.requires c.loop-i.invariant.mark

pub step-mark-requires-clause-right : goal.step-mark-requires-clause-right
step-mark-requires-clause-right c = right_small (tree_of c.args.self.now) c.args.before.now c.loop-i.mark c.args.rows.now c.loop-i.i c.requires c.loop-i.invariant.mark

pub step-mark-requires-clause-row : goal.step-mark-requires-clause-row
step-mark-requires-clause-row c =
    let k = c.loop-i.i in
    let r = c.row-row.result in
    let rows = c.args.rows.now in
    let below : k < length rows = omega (arith, c.loop-i-test.true) in
    row_at (tree_of c.args.self.now) c.args.before.now rows k r below (sym (get_or_from_slice_get rows k r r (sym c.row-row.ensures))) c.requires

pub loop-i-preserved : goal.loop-i-preserved
loop-i-preserved c =
    let q = tree_of c.args.self.now in
    let n = c.closed_below-closed.result in
    let b = c.args.before.now in
    let k = c.loop-i.i in
    let r = c.row-row.result in
    let rows = c.args.rows.now in
    let mark = c.loop-i.mark in
    let h = c.loop-i.invariant in
    let old = seen_windows c.loop-i.windows.entries in
    let new = seen_windows c.take_row.new.windows.entries in
    let below : k < length rows = omega (arith, c.loop-i-test.true) in
    let at : get_or rows k r ≡ r = get_or_from_slice_get rows k r r (sym c.row-row.ensures) in
    let more : take (k + 1) rows ≡ take k rows ++ r ∷ [] = take_more rows k r below ∙ ap (λ z. take k rows ++ z ∷ []) at in
    let fits = checked_fit q (subst (λ (p : Plan). IsChecked (tree_of p)) c.self.view_is c.self.invariant.0) in
    let takes = subst (λ (a : Mark). Takes q n (record { row = r; before = a }) old new) h.mark c.in_ok-take_row.ensures.windows in
    record {
      lately = c.take_row.ensures.lately;
      mark = c.step-mark.ensures ∙ ap (λ m. step_mark m r) h.mark ∙ sym (mark_more b rows k r below (sym at));
      rows = subst (λ l. HoldsFrom q n b l new) (sym more) (row_taken q fits n b (take k rows) r old new takes h.rows);
    }

pub returns-clause-windows : goal.returns-clause-windows
returns-clause-windows c =
    let q = tree_of c.args.self.now in
    let b = c.args.before.now in
    let rows = c.args.rows.now in
    let k = c.loop-i.i in
    let m = seen_windows c.loop-i.windows.entries in
    let all : take k rows ≡ rows = take_all k rows (omega (arith, c.loop-i-test.false)) in
    subst (λ n. HoldsFrom q n b rows m) c.closed_below-closed.ensures (subst (λ l. HoldsFrom q c.closed_below-closed.result b l m) all c.loop-i.invariant.rows)
