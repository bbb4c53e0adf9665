use Rattle.saber_laws.proofs.SideLaws.{merges_end}
use Rattle.saber_laws.proofs.inputs.merges_end.Goals as goal

pub returns : goal.returns
returns c = merges_end
