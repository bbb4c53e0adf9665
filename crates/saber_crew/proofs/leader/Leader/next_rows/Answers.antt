use Rattle.saber_crew.proofs.Leading.{then_goes, stays}
use Rattle.saber_crew.proofs.leader.Leader.next_rows.Goals as goal

pub loop-init : goal.loop-init
loop-init g c = (stays c.args.self.now, λ told d has. has)

pub next-requires-in-loop : goal.next-requires-in-loop
next-requires-in-loop g c = let r = c.requires.given in (r.0, r.1, c.loop.invariant.1 r.0 r.1 r.2)

pub returns-in-Rows-clause-gives : goal.returns-in-Rows-clause-gives
returns-in-Rows-clause-gives g c told d has = c.in-Rows.ensures.gives told d (c.loop.invariant.1 told d has)

pub returns-in-Over-clause-gives : goal.returns-in-Over-clause-gives
returns-in-Over-clause-gives g c told d has = c.in-Over.ensures.gives told d (c.loop.invariant.1 told d has)

pub returns-then-not-work_while_dry-clause-gives : goal.returns-then-not-work_while_dry-clause-gives
returns-then-not-work_while_dry-clause-gives g c told d has = c.in-Dry.ensures.gives told d (c.loop.invariant.1 told d has)

pub returns-then-not-work_while_dry-clause-goes : goal.returns-then-not-work_while_dry-clause-goes
returns-then-not-work_while_dry-clause-goes g c = then_goes c.args.self.now c.loop.self c.work_while_dry.new.self c.loop.invariant.0 c.work_while_dry.ensures.goes

pub loop-preserved : goal.loop-preserved
loop-preserved g c =
    let i = c.loop.invariant in
    (then_goes c.args.self.now c.loop.self c.work_while_dry.new.self i.0 c.work_while_dry.ensures.goes, λ told d has. c.in-Dry.ensures.gives told d (i.1 told d has))
