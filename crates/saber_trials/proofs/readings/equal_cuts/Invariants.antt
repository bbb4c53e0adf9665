use Rattle.std.proofs.Common.{◌≤◌, All}
use Rattle.saber_trials.proofs.readings.equal_cuts.Given as goal

abbrev pub invariant-loop : goal.invariant-loop
invariant-loop l = (1 ≤ l.cut) × All (λ c. 1 ≤ c) l.list.items
