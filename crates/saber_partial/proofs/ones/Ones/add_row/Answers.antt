use Rattle.std.proofs.Common.{◌≡◌, ◌-◌, [], ◌∷◌, length, ap, sym, ◌∙◌, arith}
use Rattle.std.proofs.lemmas.List.{length-map}
use Rattle.saber_plan.specs.Parts.{Part, group_part, numbers}
use Rattle.saber_plan.specs.Trees.{tree_of}
use Rattle.saber_partial.specs.Sorted.{alone}
use Rattle.saber_partial.proofs.Fitting.{aggregates_count}
use Rattle.saber_partial.proofs.OneParts.{row_alone}
use Rattle.saber_partial.proofs.OneRows.{can_behind, joined_behind}
use Rattle.saber_partial.proofs.ones.Ones.add_row.Goals as goal

pub overflow_sub-last : goal.overflow_sub-last
overflow_sub-last c =
    let some = c.requires.some in
    let long = c.len-last.ensures in
    let count = length-map c.self.inside.groups.entries alone in
    let same = ap (length {A = Part}) c.self.view_is in
    omega (arith, some, long, count, same)

pub add_row-requires-clause-there : goal.add_row-requires-clause-there
add_row-requires-clause-there c =
    let some = c.requires.some in
    let long = c.len-last.ensures in
    let count = length-map c.self.inside.groups.entries alone in
    let same = ap (length {A = Part}) c.self.view_is in
    omega (arith, some, long, count, same)

pub add_row-requires-clause-fit : goal.add_row-requires-clause-fit
add_row-requires-clause-fit c = aggregates_count (tree_of c.args.aggregates.now) c.keys-keys.ensures.checked c.requires.group c.args.row.now.values c.requires.row.count

pub add_row-requires-clause-can : goal.add_row-requires-clause-can
add_row-requires-clause-can c = λ d.
    let t = c.self.inside.groups in
    let q = tree_of c.args.aggregates.now in
    let zs = c.args.row.now.values in
    let ps = c.args.self.now in
    let last : c.len-last.result - 1 ≡ length ps - 1 = ap (λ n. n - 1) (c.len-last.ensures ∙ sym (length-map t.entries alone) ∙ ap (length {A = Part}) c.self.view_is) in
    can_behind t.layout t.entries (c.len-last.result - 1) d (numbers q.aggregates (zs ∷ [])) ps (group_part q (zs ∷ [])) c.has_one_layout.ensures.each c.self.invariant c.self.view_is
    (row_alone q zs c.requires.keyless) c.requires.some last c.requires.room

pub returns : goal.returns
returns c =
    let t = c.self.inside.groups in
    let q = tree_of c.args.aggregates.now in
    let zs = c.args.row.now.values in
    let ps = c.args.self.now in
    let v = numbers q.aggregates (zs ∷ []) in
    let last : c.len-last.result - 1 ≡ length ps - 1 = ap (λ n. n - 1) (c.len-last.ensures ∙ sym (length-map t.entries alone) ∙ ap (length {A = Part}) c.self.view_is) in
    joined_behind t.layout t.entries c.add_row.new.self.entries (c.len-last.result - 1) ([], v) v ps (group_part q (zs ∷ [])) c.has_one_layout.ensures.each c.self.invariant c.self.view_is
    (row_alone q zs c.requires.keyless) c.requires.some last (c.add_row.ensures.joined ([], v))
