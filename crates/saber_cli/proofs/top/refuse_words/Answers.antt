use Rattle.std.proofs.Common.{sym, subst, ap, ◌∙◌}
use Rattle.saber_notes.specs.Notes.{note_of, status_of}
use Rattle.saber_notes.specs.Told.{TellsNotes}
use Rattle.saber_cli.specs.Unread.{unread}
use Rattle.saber_cli.proofs.top.refuse_words.Goals as goal

pub returns : goal.returns
returns g c =
    let tells = TellsNotes g.N.Sink.written g.N.Sink.faults g.N.Sink.writes c.args.notes.now c.write_note-noted.new.notes in
    let status = c.status.ensures in
    record {
      status = status ∙ ap status_of c.unread-outcome.ensures;
      notes = subst (λ s. tells s c.write_note-noted.result (note_of (unread c.args.fault))) (sym status) (subst (λ o. tells (status_of c.unread-outcome.result) c.write_note-noted.result (note_of o)) c.unread-outcome.ensures c.write_note-noted.ensures);
    }
