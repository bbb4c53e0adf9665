use Rattle.saber_query.proofs.Meanings.{told}
use Rattle.saber_query.proofs.laws.a_text_means_a_query_or_has_a_fault.Goals as goal

pub returns : goal.returns
returns c = told
