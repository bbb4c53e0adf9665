use Rattle.saber_workers.proofs.LookBacks.{can_start, started}
use Rattle.saber_workers.proofs.queries.AnyLaborSaberWork.start.Goals as goal

pub start-requires : goal.start-requires
start-requires g c = let r = c.requires in can_start g.O.Operator.plan g.O.Operator.has_seen c.args.self.now r.0 r.1 r.2 c.args.own.now r.3

pub returns : goal.returns
returns g c told t suits is = started g.O.Operator.plan g.O.Operator.has_seen c.args.self.now told t suits c.args.own.now c.in-Ok.draft is c.in-Ok.ensures
