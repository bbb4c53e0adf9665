-- The laws are the lemmas on whole lists.
use Rattle.saber_core.specs.Machine.{fresh}
use Rattle.saber_core.proofs.Sounds.{sound_fresh, sound_after}
use Rattle.saber_core.proofs.Orders.{orderly}
use Rattle.saber_core.proofs.Stops.{stops_for_good}
use Rattle.saber_core.proofs.runs.laws_of_runs.Goals as goal

pub returns-clause-sound : goal.returns-clause-sound
returns-clause-sound c size seats events = sound_after (fresh size seats) events (sound_fresh size seats)

pub returns-clause-order : goal.returns-clause-order
returns-clause-order c = orderly

pub returns-clause-stop : goal.returns-clause-stop
returns-clause-stop c = stops_for_good
