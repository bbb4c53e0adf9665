use Rattle.std.proofs.Common.{◌∷◌, [], arith}
use Rattle.saber_select.specs.Found.{Found}
use Rattle.saber_select.specs.Open.{seen_windows}
use Rattle.saber_select.proofs.Putting.{range_empty, still_below, one_put, all_put}
use Rattle.saber_select.proofs.windows.put_from.Goals as goal

pub loop-window-init : goal.loop-window-init
loop-window-init c = record { put = range_empty ((c.args.place, c.args.values.now) ∷ []) c.args.low (seen_windows c.args.windows.now.entries); within = omega arith }

pub put_at-requires : goal.put_at-requires
put_at-requires c = still_below ((c.args.place, c.args.values.now) ∷ []) c.args.low c.loop-window.window c.args.place (seen_windows c.args.windows.now.entries) (seen_windows c.loop-window.windows.entries) c.loop-window.invariant.put c.requires

pub loop-window-preserved : goal.loop-window-preserved
loop-window-preserved c =
    let e : Found = (c.args.place, c.args.values.now) in
    record {
      put = one_put e c.args.low c.loop-window.window (seen_windows c.args.windows.now.entries) (seen_windows c.loop-window.windows.entries) (seen_windows c.put_at.new.windows.entries) (omega arith) c.loop-window.invariant.put c.in_ok-put_at.ensures;
      within = omega arith;
    }

pub returns : goal.returns
returns c = all_put ((c.args.place, c.args.values.now) ∷ []) c.args.low c.loop-window.window c.args.past (seen_windows c.args.windows.now.entries) (seen_windows c.loop-window.windows.entries) (omega arith) (omega arith) (λ l. omega arith) (λ l. omega arith) c.loop-window.invariant.put
