use Rattle.saber_ring.specs.Words.{view, cells}
use Rattle.saber_workers.proofs.Works.{then_reads, held_reads}
use Rattle.saber_workers.proofs.bench.Bench.go_on.Goals as goal

pub returns-in-Held-clause-reads : goal.returns-in-Held-clause-reads
returns-in-Held-clause-reads g c =
    let e = c.look_back_all.ensures in
    held_reads (cells c.args.self.now.ring.now) c.look_back_all.new.next (view c.args.seat.now) (view c.look_back_all.new.seat) e.goes e.kept c.in-Held.ensures.looks.1 c.in-Held.ensures.looks.2

pub returns-in-NoMemory-clause-reads : goal.returns-in-NoMemory-clause-reads
returns-in-NoMemory-clause-reads g c =
    let e = c.look_back_all.ensures in
    then_reads (cells c.args.self.now.ring.now) (view c.args.seat.now) (view c.look_back_all.new.seat) (view c.hand_in.new.seat) c.hand_in.result.waits e.goes e.kept c.in-NoMemory.ensures.looks c.hand_in.ensures.reads

pub returns-in-In-clause-reads : goal.returns-in-In-clause-reads
returns-in-In-clause-reads g c =
    let e = c.look_back_all.ensures in
    then_reads (cells c.args.self.now.ring.now) (view c.args.seat.now) (view c.look_back_all.new.seat) (view c.hand_in-in-In.new.seat) c.hand_in-in-In.result.waits e.goes e.kept c.in-In.ensures.looks.1 c.hand_in-in-In.ensures.reads
