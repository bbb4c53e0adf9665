use Rattle.std.proofs.Common.{rules, ◌≡◌, ◌+◌, ◌-◌, ◌^◌, ◌<◌, Some, drop, take, ℕ, pos, to_z, w64, ap, subst, ◌∙◌, arith}
use Rattle.std.specs.List.{slice_get}
use Rattle.saber_plan.specs.Windows.{mark_after}
use Rattle.saber_window.proofs.SliceFacts.{slice_get-drop, left_at, mark_at_once}
use Rattle.saber_window.proofs.marks.mark_behind.Goals as goal

-- the last row, among those from `from` on
last_row : (c : goal.After-stamp-time) → Some c.row.result ≡ slice_get (drop c.args.from c.args.rows.now) (c.args.end - 1 - c.args.from)
last_row c =
    let more = c.requires.more in
    let within = c.requires.within in
    let at : c.args.end - 1 ≡ c.args.from + (c.args.end - 1 - c.args.from) = omega (arith, more) in
    slice_get-drop c.args.rows.now c.args.from (c.args.end - 1 - c.args.from) c.row.result (omega (arith, more, within)) (c.row.ensures ∙ ap (slice_get c.args.rows.now) at)

small : (c : goal.After-stamp-time) → c.stamp-time.result < 2 ^ 63
small c =
    let time = (left_at (drop c.args.from c.args.rows.now) (c.args.end - 1 - c.args.from) c.row.result c.requires.left (last_row c)).time in
    let is = c.stamp-time.ensures.stamp in
    omega (arith, time, is)

pub overflow_cast-result : goal.overflow_cast-result
overflow_cast-result c = let below = small c in search rules

pub returns : goal.returns
returns c =
    let more = c.requires.more in
    let count : c.args.end - 1 - c.args.from + 1 ≡ c.args.end - c.args.from = omega (arith, more) in
    let m = c.args.m.now in
    let below = small c in
    let cast : to_z w64 c.stamp-time.result ≡ pos c.stamp-time.result = search rules in
    let zs = drop c.args.from c.args.rows.now in
    subst (λ (k : ℕ). record { left = m.left + k; right = m.right; last = Some (to_z w64 c.stamp-time.result); ended = m.ended } ≡ mark_after m (take k zs)) count
    ((λ i. record { left = m.left + (c.args.end - 1 - c.args.from + 1); right = m.right; last = Some ((cast ∙ ap pos c.stamp-time.ensures.stamp) i); ended = m.ended })
    ∙ mark_at_once m zs (c.args.end - 1 - c.args.from) c.row.result c.requires.left (last_row c))
