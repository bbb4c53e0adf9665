use Rattle.std.proofs.Common.{◌≡◌}
use Rattle.saber_pipe.specs.Relays.{taken_by, mark_in, faults_in, Drains}
use Rattle.saber_pipe.proofs.relay.Relay.drain.Given as goal

abbrev pub invariant-loop : goal.invariant-loop
invariant-loop g l = record {
  drains : Drains (taken_by l.initial.self) (taken_by l.self) (mark_in l.initial.self) (mark_in l.self);
  faults : faults_in l.self ≡ faults_in l.initial.self;
}
