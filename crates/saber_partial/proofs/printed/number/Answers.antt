use Rattle.std.proofs.Common.{◌∙◌, pos, rules, to_z-of_z, arith}
use mir.Val.{SFits}
use mir.Syntax.{w128}
use Rattle.saber_partial.proofs.Shown.{worth}
use Rattle.saber_partial.proofs.printed.number.Goals as goal

pub returns-in-Some : goal.returns-in-Some
returns-in-Some c =
    let fits : SFits w128 c.in-Some.number.now = search rules in
    to_z-of_z fits ∙ c.in-Some.ensures.lookup.4 (omega arith) (pos 0) ∙ worth c.args.item.now c.place_of.result c.args.row.now c.place_of.ensures

pub returns-in-None : goal.returns-in-None
returns-in-None c =
    c.in-None.ensures.lookup.4 (omega arith) (pos 0) ∙ worth c.args.item.now c.place_of.result c.args.row.now c.place_of.ensures
