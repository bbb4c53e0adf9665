use Rattle.std.proofs.Common.{◌≡◌, ◌∙◌, ◌++◌, sym, ap, subst}
use Rattle.saber_notes.specs.ManyNotes.{first_status, lines_from, query_lines}
use Rattle.saber_notes.specs.Reports.{notes_in}
use Rattle.saber_notes.specs.Told.{HasNotes, TellsNotes}
use Rattle.saber_top.specs.Ends.{top_notes, top_status}
use Rattle.saber_top.specs.Shared.{outcomes_of, parts_in}
use Rattle.saber_top.proofs.TellLemmas.{quiet, loud}
use Rattle.saber_top.proofs.tells.tell.Goals as goal

pub returns-in-Before : goal.returns-in-Before
returns-in-Before g c =
    let os = outcomes_of (parts_in c.args.parts.now) in
    subst (λ x. TellsNotes g.N.Sink.written g.N.Sink.faults g.N.Sink.writes c.args.notes.now c.write_early.new.notes (top_status x os) c.write_early.result (top_notes x os)) (sym c.in-Before.is) c.write_early.ensures

pub returns-in-Each : goal.returns-in-Each
returns-in-Each g c =
    let os = outcomes_of (parts_in c.args.parts.now) in
    let status = first_status os in
    let text : notes_in c.add_each.new.report ≡ lines_from 1 os =
    c.add_each.ensures ∙ ap (λ x. x ++ lines_from 1 (outcomes_of c.as_slice.result.now)) c.new-report.ensures ∙ ap (λ parts. lines_from 1 (outcomes_of parts)) c.as_slice.ensures in
    let has : HasNotes status (notes_in c.add_each.new.report) = subst (HasNotes status) (sym text) (quiet 1 os, loud 1 os) in
    let tells = subst (TellsNotes g.N.Sink.written g.N.Sink.faults g.N.Sink.writes c.args.notes.now c.write.new.notes status c.write.result) text (c.write.ensures status has) in
    subst (λ x. TellsNotes g.N.Sink.written g.N.Sink.faults g.N.Sink.writes c.args.notes.now c.write.new.notes (top_status x os) c.write.result (top_notes x os)) (sym c.in-Each.is) tells
