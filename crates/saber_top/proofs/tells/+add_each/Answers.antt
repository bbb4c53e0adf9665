use Rattle.std.proofs.Common.{◌∙◌, ◌+◌, ◌++◌, sym, ap}
use Rattle.saber_notes.specs.ManyNotes.{lines_from}
use Rattle.saber_notes.specs.Reports.{notes_in}
use Rattle.saber_top.specs.Shared.{outcomes_of}
use Rattle.saber_top.proofs.TellLemmas.{lines_more}
use Rattle.saber_top.proofs.tells.+add_each.Goals as goal

pub returns : goal.returns
returns g t c =
    let old = notes_in c.args.report.now in
    let number = c.args.number in
    let o = c.in-Some.part.now.outcome in
    let os = outcomes_of c.in-Some.others.now in
    lines_more old (notes_in c.add_each.new.report) number o os (c.add_each.ensures ∙ ap (λ x. x ++ lines_from (number + 1) os) c.add.ensures.line)
    ∙ ap (λ parts. old ++ lines_from number (outcomes_of parts)) (sym c.in-Some.ensures.cases.0)
