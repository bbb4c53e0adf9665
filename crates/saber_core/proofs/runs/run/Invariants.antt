-- The events so far and those to come lead where all do.
use Rattle.std.proofs.Common.{◌≡◌, drop}
use Rattle.saber_core.specs.Machine.{fresh}
use Rattle.saber_core.specs.Sound.{IsSound}
use Rattle.saber_core.specs.Runs.{state_after}
use Rattle.saber_core.proofs.runs.run.Given as goal

abbrev pub invariant-loop-e : goal.invariant-loop-e
invariant-loop-e l =
    record {
      state : state_after l.core (drop l.e-index l.events) ≡ state_after (fresh l.fn.size l.fn.seats) l.events;
      sound : IsSound l.core;
    }
