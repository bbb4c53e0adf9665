use Rattle.std.proofs.Common.{◌≡◌, T}
use Rattle.std.specs.FinMap.{is_sorted}
use Rattle.saber_plan.specs.Answers.{key_cmp}
use Rattle.saber_plan.specs.Parts.{merge}
use Rattle.saber_join.specs.Found.{Apart, seen_entries, seen_pairs}
use Rattle.saber_join.proofs.pairs.Pairs.merge.Given as goal

abbrev pub invariant-loop-places : goal.invariant-loop-places
invariant-loop-places l = record {
  can : (goal.iterator-loop-places).can_next l.places-iterator;
  finite : (goal.iterator-loop-places).is_finite l.places-iterator;
  rest : merge (seen_pairs l.self-inside.pairs.entries) (seen_pairs l.places-iterator) ≡ merge l.fn.self l.fn.later;
  rising : T (is_sorted key_cmp (seen_entries l.places-iterator));
  apart : Apart (seen_pairs l.self-inside.pairs.entries) (seen_pairs l.places-iterator);
}
