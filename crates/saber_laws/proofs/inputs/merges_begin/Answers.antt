use Rattle.saber_laws.proofs.SideLaws.{merges_begin}
use Rattle.saber_laws.proofs.inputs.merges_begin.Goals as goal

pub returns : goal.returns
returns c = merges_begin
