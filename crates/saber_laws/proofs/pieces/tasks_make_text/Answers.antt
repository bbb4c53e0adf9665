use Rattle.saber_laws.proofs.StepLaws.{tasks_make_text}
use Rattle.saber_laws.proofs.pieces.tasks_make_text.Goals as goal

pub returns : goal.returns
returns c = tasks_make_text
