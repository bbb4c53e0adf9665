use Rattle.std.proofs.Common.{refl, subst}
use Rattle.saber_core.specs.Works.{IsPieceOrMark}
use Rattle.saber_ring.specs.Sums.{IsSum}
use Rattle.saber_edge_tests.proofs.Adding.{stops, adds_or_stops}
use Rattle.saber_edge_tests.proofs.rings.absorb.Goals as goal

pub returns-in-None-clause-stage : goal.returns-in-None-clause-stage
returns-in-None-clause-stage c told k total sum = stops told k c.args.stage.now c.args.stage.now total refl

pub returns-in-Some-clause-stage : goal.returns-in-Some-clause-stage
returns-in-Some-clause-stage c told k total sum =
    adds_or_stops told k c.args.stage.now c.add.new.stage c.in-Some.piece c.add.result total (subst (IsPieceOrMark IsSum told k) c.in-Some.is sum) c.add.ensures.added c.add.ensures.same
