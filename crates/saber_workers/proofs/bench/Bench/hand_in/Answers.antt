use Rattle.std.proofs.Common.{◌∙◌, refl}
use Rattle.saber_ring.specs.Words.{view, cells}
use Rattle.saber_workers.proofs.Works.{hands_in}
use Rattle.saber_workers.proofs.bench.Bench.hand_in.Goals as goal

pub returns-clause-reads : goal.returns-clause-reads
returns-clause-reads g c =
    let v = view c.args.seat.now in
    (hands_in g.W.Work.is_piece (cells c.args.self.now.ring.now) c.args.job.task v (view c.deposit.new.self) c.args.piece v.job refl c.requires.has c.deposit.ensures.told).0

pub returns-clause-ready : goal.returns-clause-ready
returns-clause-ready g c =
    let v = view c.args.seat.now in let r = c.requires.ready in
    let d = hands_in g.W.Work.is_piece (cells c.args.self.now.ring.now) c.args.job.task v (view c.deposit.new.self) c.args.piece v.job refl c.requires.has c.deposit.ensures.told in
    record { own = c.deposit.ensures.same ∙ r.own; free = (d.2 ∙ r.free.0, d.3 ∙ r.free.1) }

pub returns-clause-none : goal.returns-clause-none
returns-clause-none g c =
    let v = view c.args.seat.now in
    ((hands_in g.W.Work.is_piece (cells c.args.self.now.ring.now) c.args.job.task v (view c.deposit.new.self) c.args.piece v.job refl c.requires.has c.deposit.ensures.told).1, refl)

pub returns-clause-hand : goal.returns-clause-hand
returns-clause-hand g c =
    let v = view c.args.seat.now in
    (hands_in g.W.Work.is_piece (cells c.args.self.now.ring.now) c.args.job.task v (view c.deposit.new.self) c.args.piece v.job refl c.requires.has c.deposit.ensures.told).1
