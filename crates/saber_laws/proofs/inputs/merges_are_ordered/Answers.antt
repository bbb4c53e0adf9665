use Rattle.saber_laws.proofs.SideLaws.{merges_are_ordered}
use Rattle.saber_laws.proofs.inputs.merges_are_ordered.Goals as goal

pub returns : goal.returns
returns c = merges_are_ordered
