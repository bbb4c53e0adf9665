use Rattle.std.proofs.Common.{◌≡◌, ◌++◌, ◌∙◌, List, ℕ, ap, pos, rules, subst, take, to_z-of_z}
use mir.Val.{SFits}
use mir.Syntax.{w128}
use Rattle.std.specs.Fmt.{signed_decimal}
use Rattle.std.specs.Result.{OnOk}
use Rattle.saber_digits.specs.Cells.{drafted_text}
use Rattle.saber_digits.specs.CellFacts.{ended}
use Rattle.saber_digits.proofs.lines.write_line.Goals as goal

pub returns-clause-ok : goal.returns-clause-ok
returns-clause-ok c =
    let old = c.args.out.now.items in
    let first = drafted_text old c.put_number-first.new.line c.put_number-first.result in
    let fits : SFits w128 c.from.result = search rules in
    let is : c.from.result ≡ pos c.args.window = c.from.ensures in
    let number : take c.put_number-first.result c.put_number-first.new.line ≡ signed_decimal (pos c.args.window) =
    c.put_number-first.ensures.written ∙ ap signed_decimal (to_z-of_z fits ∙ is) in
    subst (λ (l : List ℕ). OnOk c.flush.result (c.flush.new.out.items ≡ l))
    (ended old first c.put_cells.new.out.items c.put_cells.new.line c.end_line-end.new.line (pos c.args.window) c.in_ok-last.last c.end_line-end.result c.args.answer.now
    (ap (λ l. old ++ l) number) c.in_ok-last.ensures.ok c.end_line-end.ensures.written)
    c.flush.ensures.ok
