use Rattle.saber_laws.proofs.FileLaws.{file_rows_fit}
use Rattle.saber_laws.proofs.inputs.file_rows_fit.Goals as goal

pub returns : goal.returns
returns c = file_rows_fit
