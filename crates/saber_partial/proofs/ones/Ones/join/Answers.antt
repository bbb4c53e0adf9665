use Rattle.std.proofs.Common.{length, ap, arith}
use Rattle.std.proofs.lemmas.List.{length-map}
use Rattle.saber_plan.specs.Parts.{Part}
use Rattle.saber_partial.specs.Flat.{entry_in}
use Rattle.saber_partial.specs.Sorted.{alone}
use Rattle.saber_partial.proofs.OneRows.{can_take, row_here, taken}
use Rattle.saber_partial.proofs.ones.Ones.join.Goals as goal

pub join-requires-clause-there : goal.join-requires-clause-there
join-requires-clause-there g c =
    let low = c.requires.there in
    let count = length-map c.self.inside.groups.entries alone in
    let same = ap (length {A = Part}) c.self.view_is in
    omega (arith, low, count, same)

pub join-requires-clause-other : goal.join-requires-clause-other
join-requires-clause-other g c =
    let t = c.self.inside.groups in
    let lies = c.part.invariant in
    row_here t.layout c.part.inside.layout.now t.entries c.args.i c.part.inside.row.now c.has_one_layout.ensures.layout lies.0 c.has_one_layout.ensures.each c.self.invariant lies.1
    c.args.self.now c.args.part.now c.self.view_is c.part.view_is c.requires.there c.requires.can

pub join-requires-clause-can : goal.join-requires-clause-can
join-requires-clause-can g c =
    let t = c.self.inside.groups in
    let lies = c.part.invariant in
    can_take t.layout c.part.inside.layout.now t.entries c.args.i c.part.inside.row.now c.has_one_layout.ensures.layout lies.0 c.has_one_layout.ensures.each c.self.invariant lies.1
    c.args.self.now c.args.part.now c.self.view_is c.part.view_is c.requires.there c.requires.can

pub returns-clause-joined : goal.returns-clause-joined
returns-clause-joined g c =
    let t = c.self.inside.groups in
    let lies = c.part.invariant in
    let d = entry_in t.layout c.part.inside.row.now in
    taken t.layout c.part.inside.layout.now t.entries c.args.i c.part.inside.row.now c.has_one_layout.ensures.layout lies.0 c.has_one_layout.ensures.each c.self.invariant lies.1
    c.args.self.now c.args.part.now c.self.view_is c.part.view_is c.requires.there c.requires.can
    c.join.new.self.entries d (c.join.ensures.joined d)
