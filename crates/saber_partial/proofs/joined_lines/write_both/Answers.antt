use Rattle.std.proofs.Common.{◌++◌, [], ◌∙◌, ap, pos}
use Rattle.saber_plan.specs.Answers.{items_over}
use Rattle.saber_digits.specs.Cells.{drafted_text}
use Rattle.saber_digits.specs.CellFacts.{ended}
use Rattle.saber_partial.specs.Printing.{joined_row}
use Rattle.saber_partial.proofs.joined_lines.write_both.Goals as goal

pub returns-clause-ok : goal.returns-clause-ok
returns-clause-ok c =
    let zs = items_over c.args.items.now (joined_row c.args.layout.now c.args.row.now c.args.later.now) [] in
    let old = drafted_text c.args.out.now.items c.args.draft.now c.args.start in
    let first = drafted_text c.start_line.new.out.items c.start_line.new.line c.in_ok-first.first in
    ended old first c.write_both_cells.new.out.items c.write_both_cells.new.draft c.end_line.new.line (pos c.args.heading.now.window) c.in_ok-end.end c.end_line.result zs
    (c.in_ok-first.ensures.ok ∙ ap (λ l. old ++ l) c.requires.heading.text) c.in_ok-end.ensures.ok c.end_line.ensures.written
