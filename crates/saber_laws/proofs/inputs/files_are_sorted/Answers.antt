use Rattle.saber_laws.proofs.SortedLaws.{files_are_sorted}
use Rattle.saber_laws.proofs.inputs.files_are_sorted.Goals as goal

pub returns : goal.returns
returns c = files_are_sorted
