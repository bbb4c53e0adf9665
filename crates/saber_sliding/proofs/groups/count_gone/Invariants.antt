use Rattle.std.proofs.Common.{◌≡◌, drop}
use Rattle.saber_sliding.specs.Entries.{dropped_entries}
use Rattle.saber_sliding.proofs.groups.count_gone.Given as goal

abbrev pub invariant-loop-gone : goal.invariant-loop-gone
invariant-loop-gone l = dropped_entries l.i (drop l.gone l.back) ≡ dropped_entries l.i l.back
