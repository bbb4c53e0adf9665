use Rattle.std.proofs.Common.{◌≡◌, ◌++◌}
use Rattle.saber_pipe.specs.Sinks.{sent, kept}
use Rattle.saber_pipe.proofs.sink.PipeSinkPour.pour.Given as goal

abbrev pub invariant-loop : goal.invariant-loop
invariant-loop g l = sent l.self ++ kept l.self ≡ sent l.initial.self ++ kept l.initial.self
