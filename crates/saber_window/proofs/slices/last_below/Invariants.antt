use Rattle.std.proofs.Common.{◌+◌, ◌-◌, ◌≤◌, length}
use Rattle.saber_window.specs.Together.{IsBelow}
use Rattle.saber_window.proofs.slices.last_below.Given as goal

abbrev pub invariant-loop-last : goal.invariant-loop-last
invariant-loop-last l = record {
  from : l.fn.from ≤ l.last;
  below : IsBelow l.until l.rows l.last;
  some : 1 ≤ l.ahead;
  near : l.ahead ≤ l.last + 1;
}

abbrev pub decreases-loop-last : goal.decreases-loop-last
decreases-loop-last l = length l.rows - l.last

abbrev pub invariant-loop-ahead : goal.invariant-loop-ahead
invariant-loop-ahead l = record {
  from : l.fn.from ≤ l.last;
  below : IsBelow l.until l.rows l.last;
}

-- proposed from the loop's first test
abbrev pub decreases-loop-ahead : goal.decreases-loop-ahead
decreases-loop-ahead l = l.ahead - 1
