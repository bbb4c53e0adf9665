use Rattle.std.proofs.Common.{◌≡◌, ◌<◌, ◌≤◌, ◌+◌, ◌++◌, length, drop}
use Rattle.std.specs.List.{AllByRecursion}
use Rattle.saber_plan.specs.Answers.{key}
use Rattle.saber_places.proofs.keys.push_list.Given as goal

abbrev pub invariant-loop-column : goal.invariant-loop-column
invariant-loop-column l = record {
  room : length l.list.items + length (drop l.column-index l.columns) ≤ 8;
  there : AllByRecursion (λ k. k < length l.numbers) (drop l.column-index l.columns);
  all : l.list.items ++ key (drop l.column-index l.columns) l.numbers ≡ l.fn.list.items ++ key l.columns l.numbers;
}
