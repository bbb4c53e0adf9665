use Rattle.saber_ring.specs.Words.{view, cells}
use Rattle.saber_workers.proofs.Works.{read_back, read_held, then_reads, held_reads}
use Rattle.saber_workers.proofs.bench.Bench.begin.Goals as goal

pub returns-in-Held-clause-reads : goal.returns-in-Held-clause-reads
returns-in-Held-clause-reads g c =
    let t = c.in-Held.ensures.told in let size = cells c.args.self.now.ring.now in let v = view c.args.seat.now in let w = view c.read.new.self in
    let h = read_held size c.task-task.result c.in-Held.word v w t.0 t.2 in
    held_reads size c.task-task.result v w h.0.goes h.0.kept h.1 t.1

pub returns-in-Some-clause-reads : goal.returns-in-Some-clause-reads
returns-in-Some-clause-reads g c =
    let size = cells c.args.self.now.ring.now in let v = view c.args.seat.now in let w = view c.put_back.new.self in
    let b = read_back size c.task-task.result v (view c.read.new.self) w c.in-Got.ensures.told.1 c.put_back.ensures.told in
    then_reads size v w (view c.go_on.new.seat) c.go_on.result.waits b.0.goes b.0.kept b.1 c.go_on.ensures.reads

pub returns-in-None-clause-reads : goal.returns-in-None-clause-reads
returns-in-None-clause-reads g c =
    let size = cells c.args.self.now.ring.now in let v = view c.args.seat.now in let w = view c.put_back.new.self in
    let b = read_back size c.task-task.result v (view c.read.new.self) w c.in-Got.ensures.told.1 c.put_back.ensures.told in
    then_reads size v w (view c.hand_in.new.seat) c.hand_in.result.waits b.0.goes b.0.kept b.1 c.hand_in.ensures.reads
