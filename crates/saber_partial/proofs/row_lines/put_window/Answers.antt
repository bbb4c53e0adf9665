use Rattle.std.proofs.Common.{◌≡◌, ◌∙◌, ap, pos, rules, to_z-of_z}
use mir.Val.{SFits}
use mir.Syntax.{w128}
use Rattle.std.specs.Fmt.{signed_decimal}
use Rattle.saber_partial.proofs.row_lines.put_window.Goals as goal

pub returns-clause-text : goal.returns-clause-text
returns-clause-text c =
    let fits : SFits w128 c.from.result = search rules in
    let is : c.from.result ≡ pos c.args.window = c.from.ensures in
    c.put_number.ensures.written ∙ ap signed_decimal (to_z-of_z fits ∙ is)
