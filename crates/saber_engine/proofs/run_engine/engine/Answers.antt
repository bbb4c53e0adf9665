use Rattle.saber_engine.proofs.run_engine.engine.Goals as goal

pub returns : goal.returns
returns g c =
    let e = c.engine_pouring-ran.ensures in
    record {
      gives = e.gives;
      one_write = e.one_write;
      whole = e.whole;
      takes = e.takes;
      read = e.read;
      write = e.write;
      read_good = e.read_good;
      write_good = e.write_good;
      reads = e.reads;
      writes = e.writes;
      stopped = e.stopped;
    }
