use Rattle.saber_laws.proofs.FlushLaws.{ends_close_all}
use Rattle.saber_laws.proofs.ends.ends_close_all.Goals as goal

pub returns : goal.returns
returns c = ends_close_all
