use Rattle.std.proofs.Common.{ap}
use Rattle.saber_ring.specs.Words.{view}
use Rattle.saber_workers.proofs.Works.{claim_works}
use Rattle.saber_workers.proofs.Lasts.{just_claimed}
use Rattle.saber_workers.proofs.bench.Bench.claim_next.Goals as goal

pub returns-in-Got-clause-last : goal.returns-in-Got-clause-last
returns-in-Got-clause-last g c l is out lt = just_claimed c.args.cursor.now (view c.args.seat.now).own (view c.claim.new.self).own (ap (λ z. z.own) c.in-Got.ensures.told.3)

pub returns-in-Got-clause-goes : goal.returns-in-Got-clause-goes
returns-in-Got-clause-goes g c = claim_works (view c.args.seat.now) (view c.claim.new.self) _ _ _ c.in-Got.ensures.told.3
