use denote.Param.Send.{sendable}
use Rattle.std.proofs.Crossing.{crosses}
use Rattle.saber_engine.proofs.Sending.{plan_sync}
use Rattle.saber_engine.proofs.fed_engine.engine_fed.Goals as goal

pub run_fed-ran-requires-send-O : goal.run_fed-ran-requires-send-O
run_fed-ran-requires-send-O g c κs within = search (sendable, crosses, plan_sync) depth 52 fits 20000

pub run_fed-ran-requires-sync-O : goal.run_fed-ran-requires-sync-O
run_fed-ran-requires-sync-O g c κs within = search (sendable, crosses, plan_sync) depth 52 fits 20000

pub returns : goal.returns
returns g c =
    let e = c.run_fed-ran.ensures in
    record {
      gives = e.gives;
      one_write = e.one_write;
      whole = e.whole;
      all = e.all;
      cut = e.cut;
      read = e.read;
      write = e.write;
      read_good = e.read_good;
      write_good = e.write_good;
      reads = e.reads;
      writes = e.writes;
      stopped = e.stopped;
    }
