use Rattle.std.proofs.Common.{◌+◌, ◌*◌, ◌≤◌, length}
use Rattle.saber_query.specs.Machine.{more_ands, more_ors}
use Rattle.saber_query.specs.Words.{units_words, conjs_words}
use Rattle.saber_query.specs.Trees.{units_depth, conjs_depth}
use Rattle.saber_query.specs.Reading.{coming_tokens}
use Rattle.saber_query.proofs.ParseLemmas.{Going}
use Rattle.saber_query.proofs.predicate.+parser.Given as goal

abbrev pub decreases-unit : goal.decreases-unit
decreases-unit l = 5 * l.left

abbrev pub decreases-units : goal.decreases-units
decreases-units l = 5 * l.left + 1

abbrev pub decreases-conj : goal.decreases-conj
decreases-conj l = 5 * l.left + 2

abbrev pub decreases-conjs : goal.decreases-conjs
decreases-conjs l = 5 * l.left + 3

abbrev pub decreases-pred : goal.decreases-pred
decreases-pred l = 5 * l.left + 4

abbrev pub invariant-units-loop-alloc : goal.invariant-units-loop-alloc
invariant-units-loop-alloc l = record {
  words : Going (more_ands l.left) (units_words l.more) (coming_tokens l.initial.tokens) (coming_tokens l.tokens);
  depth : units_depth l.more ≤ l.left;
}

abbrev pub decreases-units-loop-alloc : goal.decreases-units-loop-alloc
decreases-units-loop-alloc l = length (coming_tokens l.tokens)

abbrev pub invariant-conjs-loop-alloc : goal.invariant-conjs-loop-alloc
invariant-conjs-loop-alloc l = record {
  words : Going (more_ors l.left) (conjs_words l.more) (coming_tokens l.initial.tokens) (coming_tokens l.tokens);
  depth : conjs_depth l.more ≤ l.left;
}

abbrev pub decreases-conjs-loop-alloc : goal.decreases-conjs-loop-alloc
decreases-conjs-loop-alloc l = length (coming_tokens l.tokens)
