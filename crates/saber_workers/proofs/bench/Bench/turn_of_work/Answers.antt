use Rattle.std.proofs.Common.{◌∙◌, ap}
use Rattle.saber_ring.specs.Words.{view}
use Rattle.saber_workers.specs.Hands.{is_empty}
use Rattle.saber_workers.proofs.Works.{then_works}
use Rattle.saber_workers.proofs.Grows.{then_grows}
use Rattle.saber_workers.proofs.Lasts.{claimed_more}
use Rattle.saber_workers.proofs.bench.Bench.turn_of_work.Goals as goal

pub returns-clause-goes : goal.returns-clause-goes
returns-clause-goes g c = then_works (view c.args.seat.now) (view c.work_on-held.new.seat) (view c.drive-stopped.new.seat) c.work_on-held.ensures.goes c.drive-stopped.ensures.goes

pub returns-clause-grows : goal.returns-clause-grows
returns-clause-grows g c = then_grows (view c.args.seat.now) (view c.work_on-held.new.seat) (view c.drive-stopped.new.seat) _ c.work_on-held.ensures.grows c.drive-stopped.ensures.grows

pub returns-clause-last : goal.returns-clause-last
returns-clause-last g c none =
    claimed_more c.args.hand.now.cursor (view c.args.seat.now).lead (view c.work_on-held.new.seat) (view c.drive-stopped.new.seat) _ c.drive-stopped.ensures.grows (c.work_on-held.ensures.last (ap is_empty c.replace-held.ensures.value ∙ none))
