use Rattle.std.proofs.Common.{◌≡◌, ◌++◌, map}
use Rattle.saber_join.specs.Found.{values_in}
use Rattle.saber_join.proofs.pairs.Pairs.answers.Given as goal

abbrev pub invariant-loop-values : goal.invariant-loop-values
invariant-loop-values l = record {
  can : (goal.iterator-loop-values).can_next l.values-iterator;
  finite : (goal.iterator-loop-values).is_finite l.values-iterator;
  all : l.answers ++ map (λ v. v.items) l.values-iterator ≡ values_in l.fn.self;
}
