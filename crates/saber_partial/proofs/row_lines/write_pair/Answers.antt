use Rattle.std.proofs.Common.{◌≡◌, ◌++◌, [], List, ℕ, ap, pos, subst}
use Rattle.std.specs.Result.{OnOk}
use Rattle.saber_plan.specs.Answers.{items_over, line}
use Rattle.saber_digits.specs.Cells.{drafted_text}
use Rattle.saber_digits.specs.CellFacts.{ended}
use Rattle.saber_partial.specs.Printing.{joined_row}
use Rattle.saber_partial.proofs.row_lines.write_pair.Goals as goal

pub returns-clause-ok : goal.returns-clause-ok
returns-clause-ok c =
    let out = c.args.out.now.items in
    let zs = items_over c.args.items.now (joined_row c.args.layout.now c.args.row.now c.args.later.now) [] in
    let first = drafted_text out c.put_window-first.new.draft c.put_window-first.result in
    let all = ended out first c.write_both_cells.new.out.items c.write_both_cells.new.draft c.end_line-end.new.line (pos c.args.window) c.in_ok-last.last c.end_line-end.result zs
    (ap (λ l. out ++ l) c.put_window-first.ensures.text) c.in_ok-last.ensures.ok c.end_line-end.ensures.written in
    subst (λ (l : List ℕ). OnOk c.flush.result (c.flush.new.out.items ≡ l)) all c.flush.ensures.ok
