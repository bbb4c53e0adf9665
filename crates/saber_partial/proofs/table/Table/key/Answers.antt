use Rattle.std.proofs.Common.{◌≤◌, List, ℤ, length, get_or, sym, ap, ◌∙◌, arith}
use Rattle.saber_plan.specs.Parts.{Numbers}
use Rattle.saber_partial.specs.Flat.{Table}
use Rattle.saber_partial.proofs.FlatRows.{len_shown, key_here, row_ends, row_seen}
use Rattle.saber_partial.proofs.table.Table.key.Goals as goal

pub overflow_mul-start : goal.overflow_mul-start
overflow_mul-start c =
    let t = c.self.inside in
    let ends = row_ends t.layout t.len c.args.i t.numbers.items c.self.invariant (len_shown t.layout t.len t.numbers.items c.args.self.now c.args.i c.self.view_is c.requires) in
    let long = t.numbers.ok.0 in
    let rest = t.numbers.ok.1 in
    omega (arith, ends, long, rest)

pub overflow_add-result : goal.overflow_add-result
overflow_add-result c =
    let t = c.self.inside in
    let there = c.self.invariant.layout.there in
    let ends = row_ends t.layout t.len c.args.i t.numbers.items c.self.invariant (len_shown t.layout t.len t.numbers.items c.args.self.now c.args.i c.self.view_is c.requires) in
    let same = ap length c.deref.ensures.value in
    let most = c.deref.type_inv.0 in
    omega (arith, ends, there, same, most)

pub offset_bounds-deref-start : goal.offset_bounds-deref-start
offset_bounds-deref-start c =
    let t = c.self.inside in
    let ends = row_ends t.layout t.len c.args.i t.numbers.items c.self.invariant (len_shown t.layout t.len t.numbers.items c.args.self.now c.args.i c.self.view_is c.requires) in
    let same = ap length c.deref.ensures.value in
    let most = c.deref.type_inv.1 in
    omega (arith, ends, same, most)

pub slice_bounds-result-end : goal.slice_bounds-result-end
slice_bounds-result-end c =
    let t = c.self.inside in
    let there = c.self.invariant.layout.there in
    let ends = row_ends t.layout t.len c.args.i t.numbers.items c.self.invariant (len_shown t.layout t.len t.numbers.items c.args.self.now c.args.i c.self.view_is c.requires) in
    let same = ap length c.deref.ensures.value in
    omega (arith, ends, there, same)

pub returns : goal.returns
returns c = λ d.
    let t = c.self.inside in
    let l = t.layout in
    let i = c.args.i in
    let low = len_shown l t.len t.numbers.items c.args.self.now i c.self.view_is c.requires in
    let there = l.keys ≤ l.width in
    let all = key_here l i c.deref.result.now t.numbers.items c.self.invariant.layout c.deref.ensures.value ∙ ap (λ (e : List ℤ × Numbers). e.0) (sym (row_seen l t.len i t.numbers.items c.self.invariant low d)) in
    all ∙ ap (λ (x : Table). (get_or x.entries i d).0) c.self.view_is
