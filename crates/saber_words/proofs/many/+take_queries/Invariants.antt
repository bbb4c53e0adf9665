use Rattle.std.proofs.Common.{length}
use Rattle.saber_words.proofs.many.+take_queries.Given as goal

abbrev pub decreases-take_queries : goal.decreases-take_queries
decreases-take_queries l = length l.names.now
