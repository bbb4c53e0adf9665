use Rattle.std.proofs.Common.{◌≡◌, ◌≤◌, ◌<◌, ◌+◌, ◌^◌, length, drop, get_or, sym, ◌∙◌, ap, subst, arith}
use Rattle.std.proofs.lemmas.Option.{get_or_from_slice_get}
use Rattle.saber_plan.specs.Rows.{stamp}
use Rattle.saber_plan.specs.Windows.{placed_after, step_mark}
use Rattle.saber_plan.specs.Needs.{later_of, last_of, last_window}
use Rattle.saber_dispatch.proofs.LastBlocks.{taken, at_end, all_after, left_step, right_step}
use Rattle.saber_dispatch.proofs.last_windows.last_of_each.Goals as goal

pub loop-i-preserved : goal.loop-i-preserved
loop-i-preserved c =
    let f = c.args.windows.now in
    let xs = c.args.rows.now in
    let r = c.row-row.result in
    let m = c.loop-i.mark in
    let k = c.loop-i.i in
    let all = last_of f (placed_after c.args.before.now xs) in
    let rest = drop (k + 1) xs in
    let inside : k < length xs = omega (arith, c.loop-i-test.true) in
    let last : c.later-last.result ≡ later_of c.loop-i.last (last_window f (record { row = r; before = m })) = c.later-last.ensures ∙ ap (later_of c.loop-i.last) c.last_window.ensures in
    let here : get_or xs k r ≡ r = get_or_from_slice_get xs k r r (sym c.row-row.ensures) in
    let mark : step_mark m r ≡ c.step_mark-mark.result = sym c.step_mark-mark.ensures in
    let step = taken f all c.loop-i.last m xs k r inside c.loop-i.invariant.last in
    record {
      last = step
          ∙ ap (λ x. later_of (later_of c.loop-i.last (last_window f (record { row = x; before = m }))) (last_of f (placed_after (step_mark m x) rest))) here
          ∙ ap (λ l. later_of l (last_of f (placed_after (step_mark m r) rest))) (sym last)
          ∙ ap (λ n. later_of c.later-last.result (last_of f (placed_after n rest))) mark;
      times = (all_after (λ x. stamp x.values < 2 ^ 63) xs k r inside c.loop-i.invariant.times).1;
      left = subst (λ n. n.left ≤ c.args.before.now.left + (k + 1)) mark (omega (arith, left_step m r, c.loop-i.invariant.left));
      right = subst (λ n. n.right ≤ c.args.before.now.right + (k + 1)) mark (omega (arith, right_step m r, c.loop-i.invariant.right));
    }

pub returns : goal.returns
returns c = at_end c.args.windows.now (last_of c.args.windows.now (placed_after c.args.before.now c.args.rows.now)) c.loop-i.last c.loop-i.mark c.args.rows.now c.loop-i.i (omega (arith, c.loop-i-test.false)) c.loop-i.invariant.last
