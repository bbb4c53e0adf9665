use Rattle.std.proofs.Common.{◌≡◌, length, take}
use Rattle.saber_plan.specs.Answers.{key}
use Rattle.saber_partial.proofs.places.is_key_of.Given as goal

abbrev pub invariant-loop-i : goal.invariant-loop-i
invariant-loop-i l = record {
  long : length l.key ≡ length l.columns;
  front : take l.i l.key ≡ key (take l.i l.columns) l.numbers;
}
