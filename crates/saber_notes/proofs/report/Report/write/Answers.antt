use Rattle.std.proofs.Common.{◌≡◌, ◌≢◌, ◌∙◌, ◌==◌, ℕ, List, [], length, true, false, ap, sym, subst}
use Rattle.std.proofs.lemmas.Bool.{eqb-true}
use Rattle.saber_notes.specs.Reports.{notes_in}
use Rattle.saber_notes.specs.Told.{TellsNotes}
use Rattle.saber_notes.proofs.ToldLemmas.{no_bytes, nothing_told}
use Rattle.saber_notes.proofs.report.Report.write.Goals as goal

pub returns-then-is_empty : goal.returns-then-is_empty
returns-then-is_empty g c status has =
    let none : notes_in c.args.self.now ≡ [] = no_bytes (notes_in c.args.self.now) (eqb-true (length (notes_in c.args.self.now)) 0 (sym c.if-is_empty.ensures)) in
    nothing_told g.N.Sink.written g.N.Sink.faults g.N.Sink.writes c.args.notes.now status (notes_in c.args.self.now) (λ some. has.1 some none)

pub returns : goal.returns
returns g c status has =
    let old = c.args.notes.now in
    let new = c.put_note.new.notes in
    let says = c.put_note.ensures in
    let some : notes_in c.args.self.now ≢ [] = λ none. let clash : false ≡ true = c.if-is_empty.ensures ∙ ap (λ (text : List ℕ). length text == 0) none in cc in
    let text : c.as_bytes.result.now ≡ notes_in c.args.self.now = c.as_bytes.ensures.value ∙ c.as_str.ensures.value in
    subst (TellsNotes g.N.Sink.written g.N.Sink.faults g.N.Sink.writes old new status c.put_note.result) text (record {
      nothing = λ z. absurd (some (has.0 z));
      something = λ _. says.something;
      whole = says.whole;
      failed = says.failed;
      memory = says.memory;
      note = says.cause;
      note_good = says.good;
      one = λ _. says.one;
      none = says.none;
    })
