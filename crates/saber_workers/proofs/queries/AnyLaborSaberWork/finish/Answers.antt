use Rattle.std.proofs.Common.{◌+◌}
use Rattle.saber_plan.specs.Tasks.{task_start}
use Rattle.saber_fragment.specs.LookBack.{sight_to}
use Rattle.saber_assembly.specs.Works.{input_of}
use Rattle.saber_workers.proofs.LookBacks.{is_whole, is_sight, finished}
use Rattle.saber_workers.proofs.queries.AnyLaborSaberWork.finish.Goals as goal

pub finish-requires : goal.finish-requires
finish-requires g c =
    let r = c.requires in let told = r.0 in let has = r.3 in
    (sight_to (g.O.Operator.plan told.operator) told.size (input_of told) r.1 has.earlier r.1, has.seen, is_whole g.O.Operator.plan g.O.Operator.has_seen c.args.self.now told r.1 r.2 c.args.draft has)

pub returns : goal.returns
returns g c told t suits has =
    let q = g.O.Operator.plan in let seen = g.O.Operator.has_seen in let op = c.args.self.now in
    let n = told.size in let r = input_of told in let d = c.args.draft in
    finished q seen op told t suits d has g.O.Operator.is_of c.in-Ok.piece
    (c.in-Ok.ensures (sight_to (q told.operator) n r t has.earlier t) r (task_start n r t) (task_start n r (t + 1)) has.seen
    (is_whole q seen op told t suits d has) (is_sight q seen op told t suits d has))
