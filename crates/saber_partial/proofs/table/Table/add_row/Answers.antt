use Rattle.std.proofs.Common.{[], ◌∷◌, ◌*◌, List, ℤ, length, get_or, sym, ap, ◌∙◌, subst, arith}
use Rattle.std.proofs.Math.ListN.{set}
use Rattle.saber_plan.specs.Trees.{tree_of}
use Rattle.saber_plan.specs.Parts.{Numbers, numbers, join_numbers}
use Rattle.saber_partial.specs.Flat.{Table, entry_in, entries_in, IsRow, AreRows}
use Rattle.saber_partial.specs.Tallies.{CanJoin}
use Rattle.saber_partial.proofs.FlatRows.{here, len_shown, part_here, row_ends, row_seen, row_is, written, rows_written, put_over}
use Rattle.saber_partial.proofs.table.Table.add_row.Goals as goal

pub overflow_mul-start : goal.overflow_mul-start
overflow_mul-start c =
    let t = c.self.inside in
    let ends = row_ends t.layout t.len c.args.i t.numbers.items c.self.invariant (len_shown t.layout t.len t.numbers.items c.args.self.now c.args.i c.self.view_is c.requires.there) in
    let long = t.numbers.ok.0 in
    let rest = t.numbers.ok.1 in
    omega (arith, ends, long, rest)

pub overflow_add-end : goal.overflow_add-end
overflow_add-end c =
    let t = c.self.inside in
    let ends = row_ends t.layout t.len c.args.i t.numbers.items c.self.invariant (len_shown t.layout t.len t.numbers.items c.args.self.now c.args.i c.self.view_is c.requires.there) in
    let long = t.numbers.ok.0 in
    let rest = t.numbers.ok.1 in
    omega (arith, ends, long, rest)

pub offset_bounds-deref_mut-start : goal.offset_bounds-deref_mut-start
offset_bounds-deref_mut-start c =
    let t = c.self.inside in
    let ends = row_ends t.layout t.len c.args.i t.numbers.items c.self.invariant (len_shown t.layout t.len t.numbers.items c.args.self.now c.args.i c.self.view_is c.requires.there) in
    let same = ap length c.deref_mut.ensures.value in
    let most = c.deref_mut.type_inv.1 in
    omega (arith, ends, same, most)

pub slice_bounds-add_row-end : goal.slice_bounds-add_row-end
slice_bounds-add_row-end c =
    let t = c.self.inside in
    let ends = row_ends t.layout t.len c.args.i t.numbers.items c.self.invariant (len_shown t.layout t.len t.numbers.items c.args.self.now c.args.i c.self.view_is c.requires.there) in
    let same = ap length c.deref_mut.ensures.value in
    omega (arith, ends, same)

pub add_row-requires-clause-mine : goal.add_row-requires-clause-mine
add_row-requires-clause-mine c =
    let t = c.self.inside in
    let low = len_shown t.layout t.len t.numbers.items c.args.self.now c.args.i c.self.view_is c.requires.there in
    subst (IsRow t.layout) (sym (part_here t.layout.width (c.args.i * t.layout.width) c.deref_mut.result.now t.numbers.items c.deref_mut.ensures.value)) (row_is t.layout t.len c.args.i t.numbers.items c.self.invariant low)

pub add_row-requires-clause-can : goal.add_row-requires-clause-can
add_row-requires-clause-can c =
    let t = c.self.inside in
    let l = t.layout in
    let i = c.args.i in
    let v = numbers (tree_of c.args.aggregates.now).aggregates (c.args.row.now.values ∷ []) in
    let e = entry_in l (here l i t.numbers.items) in
    let low = len_shown l t.len t.numbers.items c.args.self.now i c.self.view_is c.requires.there in
    let can = subst (λ (x : Table). (d : List ℤ × Numbers) → CanJoin (get_or x.entries i d).1 v) (sym c.self.view_is) c.requires.can e in
    subst (λ (x : List ℤ × Numbers). CanJoin x.1 v) (row_seen l t.len i t.numbers.items c.self.invariant low e ∙ sym (ap (entry_in l) (part_here l.width (i * l.width) c.deref_mut.result.now t.numbers.items c.deref_mut.ensures.value))) can

pub invariant_of-self : goal.invariant_of-self
invariant_of-self c =
    let t = c.self.inside in
    let l = t.layout in
    let i = c.args.i in
    let low = len_shown l t.len t.numbers.items c.args.self.now i c.self.view_is c.requires.there in
    let ends = row_ends l t.len i t.numbers.items c.self.invariant low in
    let r = c.add_row.ensures.row in
    let new = put_over (i * l.width) l.width t.numbers.len t.numbers.items c.deref_mut.result.now c.add_row.new.xs c.deref_mut.ensures.value (sym t.numbers.ok.0) (omega (arith, ends, t.numbers.ok.0)) r.long in
    subst (AreRows l t.len) (sym new) (rows_written l t.len i t.numbers.items c.self.invariant low c.add_row.new.xs r)

pub returns-clause-joined : goal.returns-clause-joined
returns-clause-joined c = λ d.
    let t = c.self.inside in
    let l = t.layout in
    let i = c.args.i in
    let v = numbers (tree_of c.args.aggregates.now).aggregates (c.args.row.now.values ∷ []) in
    let low = len_shown l t.len t.numbers.items c.args.self.now i c.self.view_is c.requires.there in
    let ends = row_ends l t.len i t.numbers.items c.self.invariant low in
    let r = c.add_row.ensures.row in
    let new = put_over (i * l.width) l.width t.numbers.len t.numbers.items c.deref_mut.result.now c.add_row.new.xs c.deref_mut.ensures.value (sym t.numbers.ok.0) (omega (arith, ends, t.numbers.ok.0)) r.long in
    let old = ap (entry_in l) (part_here l.width (i * l.width) c.deref_mut.result.now t.numbers.items c.deref_mut.ensures.value) ∙ sym (row_seen l t.len i t.numbers.items c.self.invariant low d) in
    let all = ap (entries_in l t.len) new
    ∙ written l t.len i t.numbers.items c.self.invariant low c.add_row.new.xs r.long
    ∙ ap (set (entries_in l t.len t.numbers.items) i) (c.add_row.ensures.joined ∙ ap (λ (e : List ℤ × Numbers). (e.0, join_numbers e.1 v)) old) in
    all ∙ ap (λ (x : Table). set x.entries i ((get_or x.entries i d).0, join_numbers (get_or x.entries i d).1 v)) c.self.view_is
