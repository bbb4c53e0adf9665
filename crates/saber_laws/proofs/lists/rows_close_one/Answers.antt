use Rattle.saber_laws.proofs.ListLaws.{rows_close_one}
use Rattle.saber_laws.proofs.lists.rows_close_one.Goals as goal

pub returns : goal.returns
returns c = rows_close_one
