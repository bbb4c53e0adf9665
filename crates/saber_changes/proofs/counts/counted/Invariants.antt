use Rattle.std.proofs.Common.{◌≡◌, ◌+◌, drop, List, ℤ}
use Rattle.saber_changes.specs.Counts.{times, counts_of, tally}
use Rattle.saber_changes.proofs.counts.counted.Given as goal

abbrev pub invariant-loop-i : goal.invariant-loop-i
invariant-loop-i l = (k : List ℤ) → tally (counts_of l.counts.entries) k + times k (drop l.i l.answers) ≡ times k l.answers
