use Rattle.std.proofs.Common.{◌+◌, length}
use Rattle.saber_query.specs.Trees.{query_of}
use Rattle.saber_check.proofs.OutputLaws.{Walked}
use Rattle.saber_check.proofs.outputs.group_outputs.Given as goal

abbrev pub invariant-loop-next : goal.invariant-loop-next
invariant-loop-next l = Walked (query_of l.query) l.others l.next-index (length l.keys + 1) l.outputs.aggregates.items l.outputs.items.items
