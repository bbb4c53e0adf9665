use Rattle.std.proofs.Common.{◌≡◌, ◌≤◌, ◌<◌, ◌+◌, ◌^◌, length, drop, get_or, sym, ◌∙◌, ap, subst, arith}
use Rattle.std.proofs.lemmas.Option.{get_or_from_slice_get}
use Rattle.saber_plan.specs.Rows.{stamp}
use Rattle.saber_plan.specs.Windows.{mark_after, step_mark}
use Rattle.saber_dispatch.proofs.LastBlocks.{drop_at, all_gone, all_after, left_step, right_step}
use Rattle.saber_dispatch.proofs.reader.mark_from.Goals as goal

pub loop-i-preserved : goal.loop-i-preserved
loop-i-preserved c =
    let xs = c.args.out.now.rows in
    let r = c.row-row.result in
    let m = c.loop-i.mark in
    let k = c.loop-i.i in
    let inside : k < length xs = omega (arith, c.loop-i-test.true) in
    let here : get_or xs k r ≡ r = get_or_from_slice_get xs k r r (sym c.row-row.ensures) in
    let mark : step_mark m r ≡ c.step_mark-mark.result = sym c.step_mark-mark.ensures in
    record {
      mark = c.loop-i.invariant.mark ∙ ap (mark_after m) (drop_at r xs k inside) ∙ ap (λ x. mark_after (step_mark m x) (drop (k + 1) xs)) here ∙ ap (λ n. mark_after n (drop (k + 1) xs)) mark;
      times = (all_after (λ x. stamp x.values < 2 ^ 63) xs k r inside c.loop-i.invariant.times).1;
      left = subst (λ n. n.left + c.args.from ≤ c.args.before.now.left + (k + 1)) mark (omega (arith, left_step m r, c.loop-i.invariant.left));
      right = subst (λ n. n.right + c.args.from ≤ c.args.before.now.right + (k + 1)) mark (omega (arith, right_step m r, c.loop-i.invariant.right));
    }

pub returns : goal.returns
returns c =
    let m = c.loop-i.mark in
    let xs = c.args.out.now.rows in
    sym (c.loop-i.invariant.mark ∙ ap (mark_after m) (all_gone xs c.loop-i.i (omega (arith, c.loop-i-test.false))))

pub step_mark-mark-requires-clause-time : goal.step_mark-mark-requires-clause-time
step_mark-mark-requires-clause-time c =
    let xs = c.args.out.now.rows in
    let r = c.row-row.result in
    let k = c.loop-i.i in
    let inside : k < length xs = omega (arith, c.loop-i-test.true) in
    let here : get_or xs k r ≡ r = get_or_from_slice_get xs k r r (sym c.row-row.ensures) in
    subst (λ x. stamp x.values < 2 ^ 63) here (all_after (λ x. stamp x.values < 2 ^ 63) xs k r inside c.loop-i.invariant.times).0
