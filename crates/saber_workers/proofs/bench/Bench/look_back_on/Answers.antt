use Rattle.std.proofs.Common.{◌∙◌, sym, subst}
use Rattle.saber_ring.specs.Words.{view, cells}
use Rattle.saber_workers.specs.Hands.{HasSoFar}
use Rattle.saber_workers.proofs.Works.{read_back, read_held}
use Rattle.saber_workers.proofs.bench.Bench.look_back_on.Goals as goal

pub returns-in-Held-clause-goes : goal.returns-in-Held-clause-goes
returns-in-Held-clause-goes g c =
    let t = c.in-Held.ensures.told in (read_held (cells c.args.self.now.ring.now) c.args.next c.in-Held.word (view c.args.seat.now) (view c.read.new.self) t.0 t.2).0.goes

pub returns-in-Held-clause-kept : goal.returns-in-Held-clause-kept
returns-in-Held-clause-kept g c =
    let t = c.in-Held.ensures.told in (read_held (cells c.args.self.now.ring.now) c.args.next c.in-Held.word (view c.args.seat.now) (view c.read.new.self) t.0 t.2).0.kept

pub returns-in-Held-clause-ready : goal.returns-in-Held-clause-ready
returns-in-Held-clause-ready g c =
    let t = c.in-Held.ensures.told in let r = c.requires.ready in
    let h = read_held (cells c.args.self.now.ring.now) c.args.next c.in-Held.word (view c.args.seat.now) (view c.read.new.self) t.0 t.2 in
    record { own = c.read.ensures.same ∙ r.own; free = (h.0.turn ∙ r.free.0, h.2 ∙ r.free.1) }

pub returns-in-Held-clause-looks : goal.returns-in-Held-clause-looks
returns-in-Held-clause-looks g c =
    let t = c.in-Held.ensures.told in let w = g.W.Work in
    let h = read_held (cells c.args.self.now.ring.now) c.args.next c.in-Held.word (view c.args.seat.now) (view c.read.new.self) t.0 t.2 in
    (subst (HasSoFar w.upto w.first (g.L.Labor.has_blocks c.args.self.now.op.now) c.args.job.now.task c.args.next c.args.draft.now) (sym h.0.kept.0) c.requires.so_far, h.1, t.1)

pub returns-then-looked_back-clause-goes : goal.returns-then-looked_back-clause-goes
returns-then-looked_back-clause-goes g c =
    (read_back (cells c.args.self.now.ring.now) c.args.next (view c.args.seat.now) (view c.read.new.self) (view c.put_back.new.self) c.in-Got.ensures.told.1 c.put_back.ensures.told).0.goes

pub returns-then-looked_back-clause-kept : goal.returns-then-looked_back-clause-kept
returns-then-looked_back-clause-kept g c =
    (read_back (cells c.args.self.now.ring.now) c.args.next (view c.args.seat.now) (view c.read.new.self) (view c.put_back.new.self) c.in-Got.ensures.told.1 c.put_back.ensures.told).0.kept

pub returns-else-looked_back-clause-goes : goal.returns-else-looked_back-clause-goes
returns-else-looked_back-clause-goes g c =
    (read_back (cells c.args.self.now.ring.now) c.args.next (view c.args.seat.now) (view c.read.new.self) (view c.put_back.new.self) c.in-Got.ensures.told.1 c.put_back.ensures.told).0.goes

pub returns-else-looked_back-clause-kept : goal.returns-else-looked_back-clause-kept
returns-else-looked_back-clause-kept g c =
    (read_back (cells c.args.self.now.ring.now) c.args.next (view c.args.seat.now) (view c.read.new.self) (view c.put_back.new.self) c.in-Got.ensures.told.1 c.put_back.ensures.told).0.kept
