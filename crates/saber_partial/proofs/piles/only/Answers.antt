use Rattle.saber_partial.proofs.PileFacts.{only_part}
use Rattle.saber_partial.proofs.piles.only.Goals as goal

pub returns : goal.returns
returns c = only_part c.args.parts.now c.first.result c.requires c.first.ensures.value
