use Rattle.saber_check.specs.Widths.{item_width}
use Rattle.saber_check.specs.Walked.{item_faults}
use Rattle.saber_check.proofs.Lemmas.{Going}
use Rattle.saber_query.specs.Trees.{query_of}
use Rattle.saber_check.proofs.walk.Walk.items.Given as goal

abbrev pub invariant-loop-behind : goal.invariant-loop-behind
invariant-loop-behind l = Going item_width (item_faults (query_of l.query)) 1 l.others l.behind l.initial.self l.self
