use Rattle.std.proofs.Common.{◌∙◌, ap}
use Rattle.saber_ring.specs.Words.{view}
use Rattle.saber_crew.proofs.Ends.{ends}
use Rattle.saber_crew.proofs.runs.run.Goals as goal

pub returns-clause-ended : goal.returns-clause-ended
returns-clause-ended g c =
    let w = g.W.Work in let given = g.P.Supply.has_given in let e = c.crew-dispatched.ensures.ends in let alone = c.work_alone.ensures in let back = c.into_seat-seat.ensures.works in
    let last = view c.work_alone.new.seat in
    ends w.is_told w.upto w.is_stage (g.L.Labor.suits c.args.op.now) c.args.stage (given c.args.supply.now c.args.from.now) (given c.crew-dispatched.new.supply c.crew-dispatched.new.from) (g.P.Supply.is_over c.crew-dispatched.new.supply) w.again w.whole c.crew-dispatched.result last c.finish.result g.J.FixedData.told c.new-leader.result.seat c.crew-dispatched.new.leader.seat.lead last.lead c.requires.begins
    (ap (λ z. z.seat) c.new-leader.ensures ∙ c.in-Ok.ensures.view) e.filled (alone.goes.lead ∙ back.lead) c.finish.ensures alone.done (λ cut. alone.goes.stays (back.stays (e.stops cut)))
