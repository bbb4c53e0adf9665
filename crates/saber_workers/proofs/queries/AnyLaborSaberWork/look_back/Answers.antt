use Rattle.saber_fragment.specs.LookBack.{sight_to}
use Rattle.saber_assembly.specs.Works.{input_of}
use Rattle.saber_workers.proofs.LookBacks.{can_look_back, seen_on}
use Rattle.saber_workers.proofs.queries.AnyLaborSaberWork.look_back.Goals as goal

pub look_back-requires : goal.look_back-requires
look_back-requires g c =
    let r = c.requires in let told = r.0 in let has = r.6 in
    (sight_to (g.O.Operator.plan told.operator) told.size (input_of told) r.1 has.earlier r.2, has.seen, can_look_back g.O.Operator.plan g.O.Operator.has_seen c.args.self.now told r.1 r.3 r.2 c.args.draft.now c.args.block.now r.4 r.5 has r.7)

pub returns : goal.returns
returns g c told t u suits low high has is in_it =
    let q = g.O.Operator.plan in let seen = g.O.Operator.has_seen in let op = c.args.self.now in
    let s = sight_to (q told.operator) told.size (input_of told) t has.earlier u in
    seen_on q seen op told t suits u c.args.draft.now c.args.block.now low high has is c.look_back.new.draft
    (c.in-Ok.ensures s has.seen (can_look_back q seen op told t suits u c.args.draft.now c.args.block.now low high has is))
