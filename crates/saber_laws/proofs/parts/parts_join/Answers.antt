use Rattle.saber_laws.proofs.EndLaws.{parts_join}
use Rattle.saber_laws.proofs.parts.parts_join.Goals as goal

pub returns : goal.returns
returns c = parts_join
