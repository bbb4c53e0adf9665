use Rattle.std.proofs.Common.{◌≡◌, ◌++◌, drop}
use Rattle.saber_changes.specs.Spans.{Grown}
use Rattle.saber_changes.proofs.answers.put_numbers.Given as goal

abbrev pub invariant-loop-number : goal.invariant-loop-number
invariant-loop-number l = record {
  all : l.numbers.items ++ drop l.number-index l.line ≡ l.fn.numbers.items ++ l.line;
  grown : Grown l.fn.numbers.items l.numbers.items;
}
