use Rattle.saber_crew.proofs.Leading.{then_goes, stays}
use Rattle.saber_crew.proofs.leader.Leader.work_while_dry.Goals as goal

pub loop-init : goal.loop-init
loop-init g c = stays c.args.self.now

pub returns-then-not-turn_or_wait-clause-goes : goal.returns-then-not-turn_or_wait-clause-goes
returns-then-not-turn_or_wait-clause-goes g c = then_goes c.args.self.now c.loop.self c.turn_or_wait.new.self c.loop.invariant c.turn_or_wait.ensures.goes

pub returns-then-not-load-clause-goes : goal.returns-then-not-load-clause-goes
returns-then-not-load-clause-goes g c = then_goes c.args.self.now c.loop.self c.turn_or_wait.new.self c.loop.invariant c.turn_or_wait.ensures.goes

pub loop-preserved : goal.loop-preserved
loop-preserved g c = then_goes c.args.self.now c.loop.self c.turn_or_wait.new.self c.loop.invariant c.turn_or_wait.ensures.goes
