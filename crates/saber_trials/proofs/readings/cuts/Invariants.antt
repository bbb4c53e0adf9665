use Rattle.std.proofs.Common.{◌≤◌, All}
use Rattle.saber_trials.proofs.readings.cuts.Given as goal

abbrev pub invariant-loop-word : goal.invariant-loop-word
invariant-loop-word l = All (λ c. 1 ≤ c) l.list.items
