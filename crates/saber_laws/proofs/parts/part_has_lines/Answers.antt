use Rattle.saber_laws.proofs.ShareLaws.{part_has_lines}
use Rattle.saber_laws.proofs.parts.part_has_lines.Goals as goal

pub returns : goal.returns
returns c = part_has_lines
