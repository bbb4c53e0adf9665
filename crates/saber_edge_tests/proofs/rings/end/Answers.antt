use Rattle.saber_edge_tests.proofs.Adding.{ends_in_sum}
use Rattle.saber_edge_tests.proofs.rings.end.Goals as goal

pub returns : goal.returns
returns c = ends_in_sum c.args.seat.place.me.0 c.finish.result c.args.seat.place.me.0.lead c.finish.ensures
