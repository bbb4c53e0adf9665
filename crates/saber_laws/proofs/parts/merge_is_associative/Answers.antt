use Rattle.saber_laws.proofs.PartLaws.{merge_is_associative}
use Rattle.saber_laws.proofs.parts.merge_is_associative.Goals as goal

pub returns : goal.returns
returns c = merge_is_associative
