use Rattle.std.proofs.Common.{◌≡◌, ◌≢◌, ◌∙◌, ap, subst, rules}
use Rattle.saber_notes.specs.Notes.{note_of, status_of}
use Rattle.saber_notes.specs.Told.{TellsNotes}
use Rattle.saber_notes.specs.declared.outcome.Outcome.TheVariants.{Done}
use Rattle.saber_notes.proofs.ToldLemmas.{done_alone, nothing_told}
use Rattle.saber_notes.proofs.note.write_note.Goals as goal

pub returns-then-eq : goal.returns-then-eq
returns-then-eq g c =
    let done : c.args.outcome ≡ Done = search rules in
    nothing_told g.N.Sink.written g.N.Sink.faults g.N.Sink.writes c.args.notes.now (status_of c.args.outcome) (note_of c.args.outcome) (λ some. some (ap status_of done))

pub returns : goal.returns
returns g c =
    let o = c.args.outcome in
    let says = c.put_note.ensures in
    let goes_on : o ≢ Done = search rules in
    let text : c.as_bytes.result.now ≡ note_of o = c.as_bytes.ensures ∙ c.note_line-line.ensures in
    subst (TellsNotes g.N.Sink.written g.N.Sink.faults g.N.Sink.writes c.args.notes.now c.put_note.new.notes (status_of o) c.put_note.result) text (record {
      nothing = λ z. absurd (goes_on (done_alone o z));
      something = λ _. says.something;
      whole = says.whole;
      failed = says.failed;
      memory = says.memory;
      note = says.cause;
      note_good = says.good;
      one = λ _. says.one;
      none = says.none;
    })
