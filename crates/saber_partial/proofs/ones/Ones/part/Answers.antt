use Rattle.std.proofs.Common.{◌<◌, get_or, length, ap, sym, ◌∙◌, arith}
use Rattle.std.proofs.lemmas.List.{get_or-map, length-map}
use Rattle.saber_plan.specs.Parts.{Part, no_part}
use Rattle.saber_partial.specs.declared.layout.Layout.{Layout}
use Rattle.saber_partial.specs.Flat.{entry_in}
use Rattle.saber_partial.specs.Sorted.{alone}
use Rattle.saber_partial.proofs.OneRows.{one_row}
use Rattle.saber_partial.proofs.ones.Ones.part.Goals as goal

pub returns-clause-is : goal.returns-clause-is
returns-clause-is c =
    let es = c.self.inside.groups.entries in
    let i = c.args.i in
    let r = c.row.result.now in
    let d = entry_in c.layout.result.now r in
    let there = c.requires in
    let long = length-map es alone in
    let same = ap (length {A = Part}) c.self.view_is in
    let low : i < length es = omega (arith, there, long, same) in
    ap (λ (l : Layout). alone (entry_in l r)) c.layout.ensures.layout ∙ ap alone (c.row.ensures.entry d)
    ∙ sym (get_or-map alone es i d no_part low) ∙ ap (λ (ps : _). get_or ps i no_part) c.self.view_is

pub returns-clause-one : goal.returns-clause-one
returns-clause-one c = one_row c.layout.result.now c.row.result.now (ap (λ (l : Layout). l.keys) c.layout.ensures.layout ∙ c.self.invariant)
