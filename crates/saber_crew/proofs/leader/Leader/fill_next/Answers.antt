use Rattle.std.proofs.Common.{true, sym, subst}
use Rattle.saber_crew.specs.Dispatches.{Puts}
use Rattle.saber_crew.proofs.Leading.{then_fills, goes_fills}
use Rattle.saber_crew.proofs.leader.Leader.fill_next.Goals as goal

pub returns-clause-put : goal.returns-clause-put
returns-clause-put g c =
    let lead = c.args.self.now.seat.lead in let filled = g.W.Work.filled in
    subst (Puts filled c.args.rows true lead) (sym c.work_along.ensures.goes.works.lead)
    (subst (λ b. Puts filled c.args.rows b lead c.put.new.self.seat.lead) c.if-not-put.false c.put.ensures.put)

pub returns-clause-fills : goal.returns-clause-fills
returns-clause-fills g c =
    let m = c.put.new.self in let n = c.work_along.new.self in
    then_fills c.args.self.now m n c.put.ensures.fills (goes_fills m n c.work_along.ensures.goes)
