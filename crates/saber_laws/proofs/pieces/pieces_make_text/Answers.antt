use Rattle.saber_laws.proofs.TaskLaws.{pieces_make_text}
use Rattle.saber_laws.proofs.pieces.pieces_make_text.Goals as goal

pub returns : goal.returns
returns c = pieces_make_text
