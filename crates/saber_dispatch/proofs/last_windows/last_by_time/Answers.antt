use Rattle.std.proofs.Common.{◌≡◌, ◌+◌, ◌-◌, length, sym, arith}
use Rattle.std.proofs.lemmas.Option.{get_or_from_slice_get}
use Rattle.saber_dispatch.proofs.TimedLasts.{told}
use Rattle.saber_dispatch.proofs.last_windows.last_by_time.Goals as goal

pub returns : goal.returns
returns c =
    let xs = c.args.rows.now in
    let r = c.row.result in
    let count = c.len-count.result in
    let here : count - 1 + 1 ≡ length xs = omega (arith, c.if-count-eq0.false, c.len-count.ensures) in
    told c.args.windows.now (c.go_by_time.ensures c.if-not-go_by_time.false) c.args.before.now xs (count - 1) r here (get_or_from_slice_get xs (count - 1) r r (sym c.row.ensures)) c.requires.order c.last_window.result c.last_window.ensures
