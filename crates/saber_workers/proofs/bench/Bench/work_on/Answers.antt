use Rattle.std.proofs.Common.{◌∙◌, ap, sym}
use Rattle.saber_ring.specs.Words.{view, cells}
use Rattle.saber_workers.specs.Seats.{next_cursor}
use Rattle.saber_workers.proofs.Works.{then_works}
use Rattle.saber_workers.proofs.Grows.{then_grows}
use Rattle.saber_workers.proofs.Lasts.{claimed_more}
use Rattle.saber_workers.proofs.Misses.{empty_if, none_refused, still_refused}
use Rattle.saber_workers.proofs.bench.Bench.work_on.Goals as goal

pub returns-in-Empty-clause-goes : goal.returns-in-Empty-clause-goes
returns-in-Empty-clause-goes g c = then_works (view c.args.seat.now) (view c.claim_next-held.new.seat) (view c.read_on-held.new.seat) c.claim_next-held.ensures.goes c.read_on-held.ensures.reads.goes

pub returns-in-Empty-clause-grows : goal.returns-in-Empty-clause-grows
returns-in-Empty-clause-grows g c = then_grows (view c.args.seat.now) (view c.claim_next-held.new.seat) (view c.read_on-held.new.seat) _ c.claim_next-held.ensures.grows c.read_on-held.ensures.reads.grows

pub returns-in-Empty-clause-not : goal.returns-in-Empty-clause-not
returns-in-Empty-clause-not g c none unclaimed =
    let size = cells c.args.self.now.ring.now in let v = view c.args.seat.now in let m = view c.claim_next-held.new.seat in let w = view c.read_on-held.new.seat in let e = c.claim_next-held.ensures in
    let empty = empty_if _ (sym c.is_some-claimed.ensures ∙ unclaimed) in
    let waits = c.read_on-held.ensures.none empty in
    let same = none_refused size v m w c.read_on-held.result.waits waits c.read_on-held.ensures.reads.waits_for in
    (still_refused size v m w c.args.cursor.now same (e.not empty), e.next empty ∙ ap (λ z. next_cursor c.args.cursor.now z.word) (sym same), waits)

pub returns-in-Empty-clause-last : goal.returns-in-Empty-clause-last
returns-in-Empty-clause-last g c none =
    claimed_more c.args.cursor.now (view c.args.seat.now).lead (view c.claim_next-held.new.seat) (view c.read_on-held.new.seat) _ c.read_on-held.ensures.reads.grows c.claim_next-held.ensures.last
