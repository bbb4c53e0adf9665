use Rattle.std.proofs.Common.{length, ap, arith}
use Rattle.std.proofs.lemmas.List.{length-map}
use Rattle.saber_plan.specs.Parts.{Part}
use Rattle.saber_partial.specs.Sorted.{alone}
use Rattle.saber_partial.specs.Young.{no_entry}
use Rattle.saber_partial.proofs.OneRows.{can_next, joined_next}
use Rattle.saber_partial.proofs.ones.Ones.join_next.Goals as goal

pub join_next-requires-clause-there : goal.join_next-requires-clause-there
join_next-requires-clause-there g c =
    let low = c.requires.there in
    let count = length-map c.self.inside.groups.entries alone in
    let same = ap (length {A = Part}) c.self.view_is in
    omega (arith, low, count, same)

pub join_next-requires-clause-can : goal.join_next-requires-clause-can
join_next-requires-clause-can g c =
    let t = c.self.inside.groups in
    can_next t.layout t.entries c.args.i c.has_one_layout.ensures.each c.self.invariant c.args.self.now c.self.view_is c.requires.there c.requires.can

pub returns-clause-joined : goal.returns-clause-joined
returns-clause-joined g c =
    let t = c.self.inside.groups in
    joined_next t.layout t.entries c.args.i c.has_one_layout.ensures.each c.self.invariant c.args.self.now c.self.view_is c.requires.there
    c.join_next.new.self.entries no_entry (c.join_next.ensures.joined no_entry)
