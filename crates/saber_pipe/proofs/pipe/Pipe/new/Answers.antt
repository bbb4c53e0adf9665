use Rattle.saber_pipe.proofs.Relays.{begins}
use Rattle.saber_pipe.proofs.pipe.Pipe.new.Goals as goal

pub ruled-requires-clause-rule : goal.ruled-requires-clause-rule
ruled-requires-clause-rule c = begins
