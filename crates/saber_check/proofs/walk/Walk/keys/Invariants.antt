use Rattle.saber_check.specs.Widths.{column_width}
use Rattle.saber_check.specs.Walked.{key_faults}
use Rattle.saber_check.proofs.Lemmas.{Going}
use Rattle.saber_query.specs.Trees.{query_of}
use Rattle.saber_check.proofs.walk.Walk.keys.Given as goal

abbrev pub invariant-loop-behind : goal.invariant-loop-behind
invariant-loop-behind l = Going column_width (key_faults (query_of l.query) l.group) 1 l.others l.behind l.initial.self l.self
