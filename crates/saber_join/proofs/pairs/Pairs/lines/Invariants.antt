use Rattle.std.proofs.Common.{◌≡◌, ◌++◌, map}
use Rattle.saber_plan.specs.Texts.{Behind}
use Rattle.saber_join.specs.Found.{lines_for, values_in}
use Rattle.saber_join.proofs.pairs.Pairs.lines.Given as goal

abbrev pub invariant-loop-values : goal.invariant-loop-values
invariant-loop-values l = record {
  can : (goal.iterator-loop-values).can_next l.values-iterator;
  finite : (goal.iterator-loop-values).is_finite l.values-iterator;
  all : l.out.items ++ lines_for l.window (map (λ v. v.items) l.values-iterator) ≡ l.fn.out.items ++ lines_for l.window (values_in l.fn.self);
  behind : Behind l.fn.out.items l.out.items;
}
