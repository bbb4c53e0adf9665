use Rattle.std.proofs.Common.{◌≡◌, ◌≢◌, ◌∙◌, ◌++◌, ap, sym, subst}
use Rattle.saber_notes.specs.Reports.{notes_in}
use Rattle.saber_notes.specs.Told.{HasNotes, TellsNotes}
use Rattle.saber_notes.specs.ManyNotes.{early_note, early_status}
use Rattle.saber_notes.proofs.ToldLemmas.{early_has_notes}
use Rattle.saber_notes.proofs.report.write_early.Goals as goal

pub returns : goal.returns
returns g c =
    let e = c.args.early in
    let text : notes_in c.add_early.new.self ≡ early_note e = c.add_early.ensures ∙ ap (λ x. x ++ early_note e) c.new-report.ensures in
    let tells = c.write.ensures (early_status e) (subst (HasNotes (early_status e)) (sym text) (early_has_notes e)) in
    subst (TellsNotes g.N.Sink.written g.N.Sink.faults g.N.Sink.writes c.args.notes.now c.write.new.notes (early_status e) c.write.result) text tells
