use Rattle.saber_edge_tests.proofs.Adding.{next_number}
use Rattle.saber_edge_tests.proofs.rings.fill.Goals as goal

pub fill-requires-clause-next : goal.fill-requires-clause-next
fill-requires-clause-next c = next_number c.args.t c.args.rows c.args.seat.now.place.me.0.lead c.requires.next
