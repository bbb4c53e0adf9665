use Rattle.std.proofs.Common.{length}
use Rattle.saber_plan.specs.Trees.{tree_of}
use Rattle.saber_group.proofs.Gathered.{Gathered}
use Rattle.saber_group.proofs.group.Group.open_behind.Given as goal

abbrev pub invariant-loop-rest : goal.invariant-loop-rest
invariant-loop-rest g l = Gathered (tree_of l.fn.self) l.fn.earlier.before l.fn.earlier.rows.now l.low l.rest l.front

abbrev pub decreases-loop-rest : goal.decreases-loop-rest
decreases-loop-rest g l = length l.rest
