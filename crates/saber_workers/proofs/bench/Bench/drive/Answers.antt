use Rattle.std.proofs.Common.{◌∙◌, ap, sym, subst}
use Rattle.saber_ring.specs.declared.view.Entry.TheVariants.{Claim}
use Rattle.saber_ring.specs.Shows.{times}
use Rattle.saber_ring.specs.Words.{view, cells}
use Rattle.saber_ring.specs.Plays.{is_stopped}
use Rattle.saber_workers.specs.Seats.{EndsTurn}
use Rattle.saber_workers.specs.Lasts.{GaveAll}
use Rattle.saber_workers.specs.Grows.{Grows}
use Rattle.saber_workers.proofs.Grows.{released_own, as_before}
use Rattle.saber_workers.proofs.Lasts.{gave_left}
use Rattle.saber_workers.proofs.Drives.{open_of, ends_turn, held_ends}
use Rattle.saber_workers.proofs.Works.{then_works, won_passes, held_passes, released, passes_grow}
use Rattle.saber_workers.proofs.bench.Bench.drive.Goals as goal

pub returns-clause-left : goal.returns-clause-left
returns-clause-left g c runs l is out idle =
    let w = c.in-Got.ensures.told in let v = view c.args.seat.now in let won = view c.win.new.self in let d = view c.drain.new.seat in let turn = c.drain.new.turn in
    let own = released_own c.args.self.now.ring.now.size turn.behind d (view c.release.new.self) turn.state c.release.ensures.told in
    let is_open = open_of turn.state (sym c.is_stopped-stopped.ensures ∙ runs) in
    let gave = gave_left c.in-Got.turn.behind (is_stopped c.in-Got.turn.state) v.own (w.7 l is out c.requires.ready.free.0) in
    let all = c.drain.ensures.given (subst (GaveAll c.in-Got.turn.behind) (sym (ap (λ z. z.own) w.6)) gave) in
    let none = c.drain.ensures.left is_open l (ap (λ z. z.lead) w.6 ∙ is) out (ap (λ z. z.job) w.6 ∙ idle) in
    (turn.behind, subst (GaveAll turn.behind) (sym own) all, ap (times (Claim turn.behind)) own ∙ none)

pub returns-clause-ends : goal.returns-clause-ends
returns-clause-ends g c =
    let turn = c.drain.new.turn in
    subst (EndsTurn (cells c.args.self.now.ring.now) (view c.release.new.self)) (sym c.is_stopped-stopped.ensures)
    (ends_turn c.args.self.now.ring.now.size turn.behind (view c.drain.new.seat) (view c.release.new.self) turn.state c.release.ensures.told c.drain.ensures.found)

pub returns-in-Held-clause-ends : goal.returns-in-Held-clause-ends
returns-in-Held-clause-ends g c =
    let w = c.in-Held.ensures.told in held_ends c.args.self.now.ring.now.size c.in-Held.word (view c.args.seat.now) (view c.win.new.self) w.0 w.2

pub returns-in-Held-clause-ready : goal.returns-in-Held-clause-ready
returns-in-Held-clause-ready g c =
    let w = c.in-Held.ensures.told in let r = c.requires.ready in let p = held_passes c.in-Held.word (view c.args.seat.now) (view c.win.new.self) w.1 w.2 in
    record { own = c.win.ensures.same ∙ r.own; free = (p.1 ∙ r.free.0, p.0.block ∙ r.free.1) }

pub returns-in-Held-clause-goes : goal.returns-in-Held-clause-goes
returns-in-Held-clause-goes g c =
    let w = c.in-Held.ensures.told in (held_passes c.in-Held.word (view c.args.seat.now) (view c.win.new.self) w.1 w.2).0.goes

pub returns-in-Held-clause-grows : goal.returns-in-Held-clause-grows
returns-in-Held-clause-grows g c =
    let w = c.in-Held.ensures.told in let p = held_passes c.in-Held.word (view c.args.seat.now) (view c.win.new.self) w.1 w.2 in
    as_before (view c.args.seat.now) (view c.win.new.self) _ p.0.own p.0.job

pub returns-clause-ready : goal.returns-clause-ready
returns-clause-ready g c =
    let w = c.in-Got.ensures.told in let t = c.drain.new.turn in let r = c.release.ensures in
    let p = won_passes w.0 _ (view c.args.seat.now) (view c.win.new.self) w.3 w.6 in
    let q = released c.args.self.now.ring.now.size t.behind (view c.drain.new.seat) (view c.release.new.self) t.state r.told r.seen r.stopped in
    record { own = r.same ∙ c.drain.ensures.own; free = (q.1, q.0.block ∙ c.drain.ensures.kept.1 ∙ p.block ∙ c.requires.ready.free.1) }

pub returns-clause-goes : goal.returns-clause-goes
returns-clause-goes g c =
    let w = c.in-Got.ensures.told in let t = c.drain.new.turn in let r = c.release.ensures in let v = view c.args.seat.now in let m = view c.win.new.self in let d = view c.drain.new.seat in let u = view c.release.new.self in
    let p = won_passes w.0 _ v m w.3 w.6 in
    let q = released c.args.self.now.ring.now.size t.behind d u t.state r.told r.seen r.stopped in
    then_works v d u (then_works v m d p.goes c.drain.ensures.goes) q.0.goes

pub returns-clause-grows : goal.returns-clause-grows
returns-clause-grows g c =
    let w = c.in-Got.ensures.told in let t = c.drain.new.turn in let r = c.release.ensures in let v = view c.args.seat.now in let m = view c.win.new.self in let d = view c.drain.new.seat in let u = view c.release.new.self in
    let p = won_passes w.0 _ v m w.3 w.6 in
    let q = released c.args.self.now.ring.now.size t.behind d u t.state r.told r.seen r.stopped in
    subst (Grows v u) (sym c.is_stopped-stopped.ensures) (passes_grow v m d u _ p c.drain.ensures.grows q.0)

pub returns-clause-job : goal.returns-clause-job
returns-clause-job g c =
    let w = c.in-Got.ensures.told in let t = c.drain.new.turn in let r = c.release.ensures in
    let p = won_passes w.0 _ (view c.args.seat.now) (view c.win.new.self) w.3 w.6 in
    let q = released c.args.self.now.ring.now.size t.behind (view c.drain.new.seat) (view c.release.new.self) t.state r.told r.seen r.stopped in
    q.0.job ∙ c.drain.ensures.kept.0 ∙ p.job

pub returns-clause-missed : goal.returns-clause-missed
returns-clause-missed g c =
    let w = c.in-Got.ensures.told in let t = c.drain.new.turn in let r = c.release.ensures in
    let p = won_passes w.0 _ (view c.args.seat.now) (view c.win.new.self) w.3 w.6 in
    let q = released c.args.self.now.ring.now.size t.behind (view c.drain.new.seat) (view c.release.new.self) t.state r.told r.seen r.stopped in
    q.0.missed ∙ c.drain.ensures.kept.3 ∙ p.missed
