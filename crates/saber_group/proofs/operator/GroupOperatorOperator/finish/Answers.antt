use Rattle.saber_plan.specs.Trees.{tree_of}
use Rattle.saber_group.proofs.Making.{piece_is_of}
use Rattle.saber_group.proofs.operator.GroupOperatorOperator.finish.Goals as goal

pub returns : goal.returns
returns c s r x y made whole sight = piece_is_of (tree_of c.args.self.now) s r x y c.args.draft made sight
