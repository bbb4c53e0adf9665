use Rattle.saber_query.proofs.LongestLemmas.{placed_fine}
use Rattle.saber_query.proofs.laws.tokens_are_real.Goals as goal

pub returns : goal.returns
returns c = placed_fine
