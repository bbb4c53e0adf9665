use Rattle.std.proofs.Common.{◌≡◌, ◌≢◌, ℕ, List, ◌++◌, codes, ◌∙◌, sym, ap, rules}
use Rattle.saber_notes.specs.Notes.{note_text}
use Rattle.saber_notes.specs.Reports.{notes_in}
use Rattle.saber_notes.specs.declared.outcome.Outcome.TheVariants.{Done}
use Rattle.saber_notes.proofs.ReportLemmas.{line_put, line_tells}
use Rattle.saber_notes.proofs.report.Report.add.Goals as goal

pub returns-clause-line : goal.returns-clause-line
returns-clause-line c =
    let begun : List ℕ = notes_in c.begin.new.self in
    let told : c.as_str.result.now ≡ note_text c.args.outcome = c.as_str.ensures ∙ c.tail_line-tail.ensures.text in
    let goes_on : c.args.outcome ≢ Done = search rules in
    let put = line_put (notes_in c.args.self.now) begun (notes_in c.tell.new.self) (note_text c.args.outcome) c.args.query c.begin.ensures.bytes
    (c.tell.ensures.bytes ∙ ap (λ (t : List ℕ). begun ++ (t ++ codes "\n")) told) in
    put ∙ ap (λ (line : List ℕ). notes_in c.args.self.now ++ line) (sym (line_tells c.args.query c.args.outcome goes_on))
