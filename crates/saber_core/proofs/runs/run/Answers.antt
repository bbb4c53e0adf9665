-- The order of events holds whether there was memory or not.
use Rattle.saber_core.proofs.Orders.{orderly}
use Rattle.saber_core.proofs.runs.run.Goals as goal

pub returns-in_err-core-clause-order : goal.returns-in_err-core-clause-order
returns-in_err-core-clause-order c = orderly c.args.size c.args.seats c.args.events.now

pub returns-clause-order : goal.returns-clause-order
returns-clause-order c = orderly c.args.size c.args.seats c.args.events.now
