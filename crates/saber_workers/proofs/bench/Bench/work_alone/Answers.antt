use Rattle.std.proofs.Common.{◌∙◌, arith}
use Rattle.saber_ring.specs.Words.{view}
use Rattle.saber_workers.proofs.Works.{then_works}
use Rattle.saber_workers.proofs.Lasts.{last_of, done_by, claimed_more}
use Rattle.saber_workers.proofs.bench.Bench.work_alone.Goals as goal

pub returns-clause-goes : goal.returns-clause-goes
returns-clause-goes g c = then_works (view c.args.seat.now) (view c.claim_all.new.seat) (view c.drive.new.seat) c.claim_all.ensures.goes c.drive.ensures.goes

pub returns-clause-done : goal.returns-clause-done
returns-clause-done g c =
    let v = view c.args.seat.now in let w = view c.claim_all.new.seat in let u = view c.drive.new.seat in let l = last_of v.lead c.requires.last in let e = c.drive.ensures in let some = c.claim_all.ensures in
    done_by c.args.tasks c.drive.result u.stopped u.own e.stops (λ runs. e.left runs l.0 (some.goes.lead ∙ l.1) l.2 some.idle.1)
    (λ t lt. claimed_more t v.lead w u _ e.grows (some.claimed t lt) l.0 l.1 l.2 (let f = c.requires.filled l.0 l.1 in omega arith))
