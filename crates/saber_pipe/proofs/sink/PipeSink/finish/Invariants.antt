use Rattle.std.proofs.Common.{Some}
use Rattle.saber_pipe.specs.Outboxes.{all_of}
use Rattle.saber_pipe.proofs.sink.PipeSink.finish.Given as goal

abbrev pub ghosts-promise : goal.ghosts-promise
ghosts-promise g a = record { whole = Some (all_of a.self.now a.mark) }
