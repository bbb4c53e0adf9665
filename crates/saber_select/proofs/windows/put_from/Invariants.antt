use Rattle.std.proofs.Common.{◌≤◌, ◌∷◌, [], max}
use Rattle.saber_select.specs.Open.{seen_windows, Puts}
use Rattle.saber_select.proofs.windows.put_from.Given as goal

abbrev pub invariant-loop-window : goal.invariant-loop-window
invariant-loop-window l = record {
  put : Puts ((l.place, l.values) ∷ []) l.fn.low l.window (seen_windows l.fn.windows.entries) (seen_windows l.windows.entries);
  within : l.window ≤ max l.fn.low l.fn.past;
}
