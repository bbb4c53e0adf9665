use Rattle.std.proofs.Common.{sym, subst}
use Rattle.saber_notes.specs.Notes.{note_of}
use Rattle.saber_notes.specs.Told.{TellsNotes}
use Rattle.saber_cli.proofs.top.saber.Goals as goal

pub returns : goal.returns
returns g c =
    let ran = c.run_words-outcome.ensures in
    let o = c.run_words-outcome.result.outcome in
    let status = c.status.ensures in
    record {
      status = status;
      answers = ran.written;
      before = ran.early;
      writes = ran.writes;
      told = ran.told;
      chained = ran.chained;
      second = ran.second;
      unread = ran.unread;
      usage = ran.usage;
      files = ran.cause;
      files_good = ran.read_good;
      sink = ran.write;
      sink_good = ran.write_good;
      leaves = ran.leaves;
      taken = ran.taken;
      notes = subst (λ s. TellsNotes g.N.Sink.written g.N.Sink.faults g.N.Sink.writes c.args.notes.now c.write_note-noted.new.notes s c.write_note-noted.result (note_of o)) (sym status) c.write_note-noted.ensures;
    }
