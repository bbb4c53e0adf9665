use Rattle.std.proofs.Common.{ap, sym, subst, ◌∙◌, ◌+◌, [], ◌∷◌, ◌++◌}
use Rattle.saber_ring.specs.declared.view.Entry.TheVariants.{Take, Give}
use Rattle.saber_ring.specs.Words.{view}
use Rattle.saber_workers.specs.Lasts.{GaveAll}
use Rattle.saber_workers.proofs.Grows.{took_own, gave_own}
use Rattle.saber_workers.proofs.Lasts.{gave_next, gave_more}
use Rattle.saber_workers.proofs.Works.{then_works, then_same, look_works, took_works, gave_works}
use Rattle.saber_workers.proofs.bench.Bench.take_next.Goals as goal

pub returns-then-done-clause-given : goal.returns-then-done-clause-given
returns-then-done-clause-given g c gave =
    let size = c.args.self.now.ring.now.size in let k = c.args.turn.now.behind in let v = view c.args.seat.now in let w = view c.take.new.self in let u = view c.give.new.self in let same = c.take.ensures.turn.0 in
    let one = took_own g.W.Work.upto g.W.Work.is_piece size k v w c.in-Got.piece c.in-Got.ensures.told.1 in
    let two = gave_own size c.take.new.turn.behind c.take.new.turn.state w u w.turn c.take.ensures.turn.2 c.give.ensures.told in
    subst (λ z. GaveAll z u.own) (sym (c.give.ensures.turn.0 ∙ ap (λ z. z + 1) same)) (gave_next k v.own w.own u.own one (two ∙ ap (λ z. w.own ++ Give z ∷ []) same) gave)

pub returns-else-done-clause-given : goal.returns-else-done-clause-given
returns-else-done-clause-given g c gave =
    let k = c.args.turn.now.behind in let v = view c.args.seat.now in let w = view c.take.new.self in
    let one = took_own g.W.Work.upto g.W.Work.is_piece c.args.self.now.ring.now.size k v w c.in-Got.piece c.in-Got.ensures.told.1 in
    subst (λ z. GaveAll z w.own) (sym c.take.ensures.turn.0) (gave_more k v.own w.own (Take k ∷ []) one gave)

pub returns-in-NotYet-clause-goes : goal.returns-in-NotYet-clause-goes
returns-in-NotYet-clause-goes g c = (look_works (view c.args.seat.now) (view c.take.new.self) _ _ c.in-NotYet.ensures.told.0).0

pub returns-in-NotYet-clause-kept : goal.returns-in-NotYet-clause-kept
returns-in-NotYet-clause-kept g c = (look_works (view c.args.seat.now) (view c.take.new.self) _ _ c.in-NotYet.ensures.told.0).1

pub returns-then-done-clause-goes : goal.returns-then-done-clause-goes
returns-then-done-clause-goes g c =
    let size = c.args.self.now.ring.now.size in let v = view c.args.seat.now in let w = view c.take.new.self in let u = view c.give.new.self in
    then_works v w u (took_works g.W.Work.upto g.W.Work.is_piece size c.args.turn.now.behind v w c.in-Got.piece c.in-Got.ensures.told.1).0 (gave_works size c.take.new.turn.behind w u w.turn c.give.ensures.told).0

pub returns-then-done-clause-kept : goal.returns-then-done-clause-kept
returns-then-done-clause-kept g c =
    let size = c.args.self.now.ring.now.size in let v = view c.args.seat.now in let w = view c.take.new.self in let u = view c.give.new.self in
    then_same v w u (took_works g.W.Work.upto g.W.Work.is_piece size c.args.turn.now.behind v w c.in-Got.piece c.in-Got.ensures.told.1).1 (gave_works size c.take.new.turn.behind w u w.turn c.give.ensures.told).1

pub returns-else-done-clause-goes : goal.returns-else-done-clause-goes
returns-else-done-clause-goes g c =
    (took_works g.W.Work.upto g.W.Work.is_piece c.args.self.now.ring.now.size c.args.turn.now.behind (view c.args.seat.now) (view c.take.new.self) c.in-Got.piece c.in-Got.ensures.told.1).0

pub returns-else-done-clause-kept : goal.returns-else-done-clause-kept
returns-else-done-clause-kept g c =
    (took_works g.W.Work.upto g.W.Work.is_piece c.args.self.now.ring.now.size c.args.turn.now.behind (view c.args.seat.now) (view c.take.new.self) c.in-Got.piece c.in-Got.ensures.told.1).1
