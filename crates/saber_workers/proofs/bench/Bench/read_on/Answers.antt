use Rattle.saber_ring.specs.Words.{view, cells}
use Rattle.saber_workers.proofs.Works.{reads_none}
use Rattle.saber_workers.proofs.bench.Bench.read_on.Goals as goal

pub returns-in-Empty-clause-reads : goal.returns-in-Empty-clause-reads
returns-in-Empty-clause-reads g c = reads_none (cells c.args.self.now.ring.now) (view c.args.seat.now)
