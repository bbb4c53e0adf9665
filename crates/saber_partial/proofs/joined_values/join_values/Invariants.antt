use Rattle.std.proofs.Common.{◌≡◌, ℕ, ◌≤◌, length, get_or, pos}
use Rattle.saber_partial.specs.Gathering.{stepped_numbers}
use Rattle.saber_partial.proofs.Folded.{stepped_from}
use Rattle.saber_partial.proofs.joined_values.join_values.Given as goal

abbrev pub invariant-loop-k : goal.invariant-loop-k
invariant-loop-k l = record {
  long : length l.xs ≡ length l.fn.xs;
  left : (j : ℕ) → l.k ≤ j → get_or l.xs j (pos 0) ≡ get_or l.fn.xs j (pos 0);
  joined : stepped_from l.folds l.xs l.ys l.k ≡ stepped_numbers l.folds l.fn.xs l.ys;
}
