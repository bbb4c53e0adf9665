use Rattle.std.proofs.Common.{◌≡◌, ◌+◌, ◌-◌, ◌*◌, length, take, drop, get_or, sym, ap, ◌∙◌, subst, arith}
use Rattle.saber_partial.specs.Flat.{Table, entry_in, IsRow}
use Rattle.saber_partial.proofs.FlatRows.{len_shown, part_here, row_ends, row_is, row_seen}
use Rattle.saber_partial.proofs.table.Table.row.Goals as goal

pub overflow_mul-start : goal.overflow_mul-start
overflow_mul-start c =
    let t = c.self.inside in
    let ends = row_ends t.layout t.len c.args.i t.numbers.items c.self.invariant (len_shown t.layout t.len t.numbers.items c.args.self.now c.args.i c.self.view_is c.requires) in
    let long = t.numbers.ok.0 in
    let rest = t.numbers.ok.1 in
    omega (arith, ends, long, rest)

pub overflow_add-result : goal.overflow_add-result
overflow_add-result c =
    let t = c.self.inside in
    let ends = row_ends t.layout t.len c.args.i t.numbers.items c.self.invariant (len_shown t.layout t.len t.numbers.items c.args.self.now c.args.i c.self.view_is c.requires) in
    let same = ap length c.deref.ensures.value in
    let most = c.deref.type_inv.0 in
    omega (arith, ends, same, most)

pub offset_bounds-deref-start : goal.offset_bounds-deref-start
offset_bounds-deref-start c =
    let t = c.self.inside in
    let ends = row_ends t.layout t.len c.args.i t.numbers.items c.self.invariant (len_shown t.layout t.len t.numbers.items c.args.self.now c.args.i c.self.view_is c.requires) in
    let same = ap length c.deref.ensures.value in
    let most = c.deref.type_inv.1 in
    omega (arith, ends, same, most)

pub slice_bounds-result-end : goal.slice_bounds-result-end
slice_bounds-result-end c =
    let t = c.self.inside in
    let ends = row_ends t.layout t.len c.args.i t.numbers.items c.self.invariant (len_shown t.layout t.len t.numbers.items c.args.self.now c.args.i c.self.view_is c.requires) in
    let same = ap length c.deref.ensures.value in
    omega (arith, ends, same)

pub returns-clause-entry : goal.returns-clause-entry
returns-clause-entry c = λ d.
    let t = c.self.inside in
    let l = t.layout in
    let i = c.args.i in
    let low = len_shown l t.len t.numbers.items c.args.self.now i c.self.view_is c.requires in
    let r = take (i * l.width + l.width - i * l.width) (drop (i * l.width) c.deref.result.now) in
    let all = ap (entry_in l) (part_here l.width (i * l.width) c.deref.result.now t.numbers.items c.deref.ensures.value) ∙ sym (row_seen l t.len i t.numbers.items c.self.invariant low d) in
    subst (λ (x : Table). entry_in x.layout r ≡ get_or x.entries i d) c.self.view_is all

pub returns-clause-row : goal.returns-clause-row
returns-clause-row c =
    let t = c.self.inside in
    let l = t.layout in
    let i = c.args.i in
    let low = len_shown l t.len t.numbers.items c.args.self.now i c.self.view_is c.requires in
    let r = take (i * l.width + l.width - i * l.width) (drop (i * l.width) c.deref.result.now) in
    subst (λ (x : Table). IsRow x.layout r) c.self.view_is
    (subst (IsRow l) (sym (part_here l.width (i * l.width) c.deref.result.now t.numbers.items c.deref.ensures.value)) (row_is l t.len i t.numbers.items c.self.invariant low))
