use Rattle.saber_laws.proofs.EndLaws.{closed_lines_stay}
use Rattle.saber_laws.proofs.parts.closed_lines_stay.Goals as goal

pub returns : goal.returns
returns c = closed_lines_stay
