use Rattle.saber_dispatch.proofs.FedTasks.{fed_blocks_are_near}
use Rattle.saber_dispatch.proofs.fed_laws.fed_blocks_are_near.Goals as goal

pub returns : goal.returns
returns c = fed_blocks_are_near
