use Rattle.saber_laws.proofs.FreeLaws.{needs_make_pieces}
use Rattle.saber_laws.proofs.needs.needs_make_pieces.Goals as goal

pub returns : goal.returns
returns c = needs_make_pieces
