use Rattle.std.proofs.Common.{◌≡◌, ◌+◌, ◌<◌, length, sym, ◌∙◌, ap, ap₂, subst, refl, true, [], ◌∷◌, arith}
use Rattle.std.proofs.lemmas.Option.{get_or_from_slice_get}
use Rattle.std.specs.FinMap.{get}
use Rattle.saber_plan.specs.Tasks.{Parts}
use Rattle.saber_plan.specs.Trees.{tree_of}
use Rattle.saber_plan.specs.Windows.{step_mark}
use Rattle.saber_plan.specs.Answers.{frame}
use Rattle.saber_plan.specs.Merges.{both}
use Rattle.saber_plan.specs.Parts.{group_part, merge}
use Rattle.saber_partial.specs.Tallies.{CanMerge}
use Rattle.saber_panes.specs.Panes.{panes_in, pane_of, or_none, is_counted, counted_rows, with_row_in}
use Rattle.saber_panes.proofs.PaneFolding.{so_far, no_rows_yet, panes_more, longer, room_for_row, front_all, all_taken}
use Rattle.saber_plan.specs.Facts.Rows.{mark_more, left_small, right_small}
use Rattle.saber_panes.proofs.panes.Panes.fold.Goals as goal

pub loop-i-init : goal.loop-i-init
loop-i-init g c = record { mark = refl; panes = no_rows_yet (tree_of c.args.p.now) c.args.before.now c.args.rows.now c.args.self.now; steps = omega arith }

pub fold_row-requires-clause-left : goal.fold_row-requires-clause-left
fold_row-requires-clause-left g c = left_small (tree_of c.args.p.now) c.args.before.now c.loop-i.mark c.args.rows.now c.loop-i.i c.requires.rows c.loop-i.invariant.mark

pub fold_row-requires-clause-right : goal.fold_row-requires-clause-right
fold_row-requires-clause-right g c = right_small (tree_of c.args.p.now) c.args.before.now c.loop-i.mark c.args.rows.now c.loop-i.i c.requires.rows c.loop-i.invariant.mark

pub fold_row-requires-clause-room : goal.fold_row-requires-clause-room
fold_row-requires-clause-room g c = λ e.
    let q = tree_of c.args.p.now in
    let x = c.row-row.result in
    let below = subst (λ n. c.loop-i.i < n) c.len-i-end.ensures c.loop-i-test.true in
    let there = sym (get_or_from_slice_get c.args.rows.now c.loop-i.i x x (sym c.row-row.ensures)) in
    let k = c.loop-i.i in
    let one = group_part q (x.values ∷ []) in
    let so = both merge c.args.self.now (panes_in q (so_far q c.args.before.now c.args.rows.now k)) in
    let room = room_for_row q c.args.before.now c.args.rows.now k x below there c.args.self.now c.requires.room (subst (λ m. is_counted q (record { row = x; before = m }) ≡ true) c.loop-i.invariant.mark e) in
    subst (λ (s : Parts). CanMerge (or_none (get s (pane_of (frame q) (record { row = x; before = c.loop-i.mark })))) one) (sym c.loop-i.invariant.panes)
    (subst (λ m. CanMerge (or_none (get so (pane_of (frame q) (record { row = x; before = m })))) one) (sym c.loop-i.invariant.mark) room)

pub returns-in_err-fold_row-clause-steps : goal.returns-in_err-fold_row-clause-steps
returns-in_err-fold_row-clause-steps g c =
    let q = tree_of c.args.p.now in
    let b = c.args.before.now in
    let xs = c.args.rows.now in
    let k = c.loop-i.i in
    let x = c.row-row.result in
    let below = subst (λ n. c.loop-i.i < n) c.len-i-end.ensures c.loop-i-test.true in
    let there = sym (get_or_from_slice_get c.args.rows.now c.loop-i.i x x (sym c.row-row.ensures)) in
    let one = ap (λ m. length (counted_rows q (record { row = x; before = m } ∷ []))) c.loop-i.invariant.mark in
    let more = longer q b xs k x below there in
    let front = front_all q b xs (k + 1) in
    let low = c.loop-i.invariant.steps in
    let step = c.fold_row.ensures.steps in
    omega (arith, one, more, front, low, step)

pub step-mark-requires-clause-left : goal.step-mark-requires-clause-left
step-mark-requires-clause-left g c = left_small (tree_of c.args.p.now) c.args.before.now c.loop-i.mark c.args.rows.now c.loop-i.i c.requires.rows c.loop-i.invariant.mark

pub step-mark-requires-clause-right : goal.step-mark-requires-clause-right
step-mark-requires-clause-right g c = right_small (tree_of c.args.p.now) c.args.before.now c.loop-i.mark c.args.rows.now c.loop-i.i c.requires.rows c.loop-i.invariant.mark

pub loop-i-preserved : goal.loop-i-preserved
loop-i-preserved g c =
    let q = tree_of c.args.p.now in
    let b = c.args.before.now in
    let xs = c.args.rows.now in
    let k = c.loop-i.i in
    let x = c.row-row.result in
    let below = subst (λ n. c.loop-i.i < n) c.len-i-end.ensures c.loop-i-test.true in
    let there = sym (get_or_from_slice_get c.args.rows.now c.loop-i.i x x (sym c.row-row.ensures)) in
    record {
      mark = c.step-mark.ensures ∙ ap (λ m. step_mark m x) c.loop-i.invariant.mark ∙ sym (mark_more b xs k x below there);
      panes = c.in_ok-fold_row.ensures.ok ∙ ap₂ (λ s m. with_row_in q s (record { row = x; before = m })) c.loop-i.invariant.panes c.loop-i.invariant.mark
          ∙ panes_more q b xs k x below there c.args.self.now;
      steps =
          let one = ap (λ m. length (counted_rows q (record { row = x; before = m } ∷ []))) c.loop-i.invariant.mark in
          let more = longer q b xs k x below there in
          let low = c.loop-i.invariant.steps in
          let step = c.fold_row.ensures.steps in
          omega (arith, one, more, low, step);
    }

pub returns-clause-ok : goal.returns-clause-ok
returns-clause-ok g c = c.loop-i.invariant.panes ∙ ap (λ us. both merge c.args.self.now (panes_in (tree_of c.args.p.now) us)) (all_taken (tree_of c.args.p.now) c.args.before.now c.args.rows.now c.loop-i.i (omega arith))

pub returns-clause-steps : goal.returns-clause-steps
returns-clause-steps g c =
    let front = front_all (tree_of c.args.p.now) c.args.before.now c.args.rows.now c.loop-i.i in
    let low = c.loop-i.invariant.steps in
    omega (arith, front, low)
