use Rattle.saber_dispatch.proofs.TaskBlocks.{blocks_are_tasks}
use Rattle.saber_dispatch.proofs.laws.blocks_are_tasks.Goals as goal

pub returns : goal.returns
returns c = blocks_are_tasks
