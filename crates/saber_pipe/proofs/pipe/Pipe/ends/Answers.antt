use Rattle.std.proofs.Common.{rules}
use Rattle.saber_pipe.proofs.Relays.{forks}
use Rattle.saber_pipe.proofs.pipe.Pipe.ends.Goals as goal

pub another-getter-requires-clause-rule : goal.another-getter-requires-clause-rule
another-getter-requires-clause-rule g c = forks _ _ (search rules) (search rules)
