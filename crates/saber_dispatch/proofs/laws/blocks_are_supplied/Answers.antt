use Rattle.saber_dispatch.proofs.Supplies.{blocks_are_supplied}
use Rattle.saber_dispatch.proofs.laws.blocks_are_supplied.Goals as goal

pub returns : goal.returns
returns g c = blocks_are_supplied g.O.Operator.plan
