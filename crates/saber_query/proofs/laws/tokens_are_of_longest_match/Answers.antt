use Rattle.saber_query.proofs.LongestLemmas.{reads_longest}
use Rattle.saber_query.proofs.laws.tokens_are_of_longest_match.Goals as goal

pub returns : goal.returns
returns c = reads_longest
