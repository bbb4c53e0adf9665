use Rattle.std.proofs.Common.{map}
use Rattle.saber_plan.specs.Trees.{tree_of}
use Rattle.saber_partition.specs.Stores.{made_of}
use Rattle.saber_partition.proofs.Taking.{seen_is_of}
use Rattle.saber_partition.proofs.Asking.{asks_in}
use Rattle.saber_partition.proofs.operator.PartitionOperator.finish.Goals as goal

pub returns : goal.returns
returns c s r x y seen whole sight = seen_is_of (tree_of c.args.self.now) (asks_in c.args.self.now c.self.view_is c.self.invariant.0 c.self.invariant.1 c.self.invariant.4) s r x y (map (made_of c.args.draft.parts) c.args.draft.rows.items) c.args.draft.ended seen sight
