use Rattle.saber_join.proofs.Tying.{ties_among}
use Rattle.saber_join.proofs.ties.tie_among.Goals as goal

pub returns-in-Some : goal.returns-in-Some
returns-in-Some c = ties_among c.args.units.now c.loop-unit.unit-index c.unit-item.result c.in-Some.tie c.loop-unit-test.true c.unit-item.is c.in-Some.ensures
