use Rattle.std.proofs.Common.{◌≡◌, ◌+◌, ◌-◌, ◌++◌, length, take, drop, refl, sym, ap, ap₂, ◌∙◌, subst, arith}
use Rattle.saber_partial.specs.declared.layout.Layout.{Layout}
use Rattle.saber_partial.specs.Flat.{Table, entries_in, AreRows}
use Rattle.saber_partial.proofs.FlatRows.{start_shown, range_ends, range_rows, range_seen, seen_append, rows_append, alike_rows}
use Rattle.saber_partial.proofs.table.Table.push_range.Goals as goal

pub overflow_mul-start : goal.overflow_mul-start
overflow_mul-start c =
    let t = c.self.inside in
    let o = c.other.inside in
    let rows = alike_rows t.layout o.layout o.len o.numbers.items c.args.self.now c.args.other.now (ap (λ (x : Table). x.layout) c.self.view_is) (ap (λ (x : Table). x.layout) c.other.view_is) c.requires.alike c.other.invariant in
    let ends = range_ends t.layout o.len c.args.from c.args.end o.numbers.items rows c.requires.order (start_shown o.layout o.len o.numbers.items c.args.other.now c.args.end c.other.view_is c.requires.there) in
    let first = ends.0 in
    let last = ends.1 in
    let long = o.numbers.ok.0 in
    let rest = o.numbers.ok.1 in
    omega (arith, first, last, long, rest)

pub overflow_mul-stop : goal.overflow_mul-stop
overflow_mul-stop c =
    let t = c.self.inside in
    let o = c.other.inside in
    let rows = alike_rows t.layout o.layout o.len o.numbers.items c.args.self.now c.args.other.now (ap (λ (x : Table). x.layout) c.self.view_is) (ap (λ (x : Table). x.layout) c.other.view_is) c.requires.alike c.other.invariant in
    let ends = range_ends t.layout o.len c.args.from c.args.end o.numbers.items rows c.requires.order (start_shown o.layout o.len o.numbers.items c.args.other.now c.args.end c.other.view_is c.requires.there) in
    let last = ends.1 in
    let long = o.numbers.ok.0 in
    let rest = o.numbers.ok.1 in
    omega (arith, last, long, rest)

pub invariant_of-self-2 : goal.invariant_of-self-2
invariant_of-self-2 c =
    let t = c.self.inside in
    let o = c.other.inside in
    let l = t.layout in
    let i = c.args.from in
    let j = c.args.end in
    let rows = alike_rows l o.layout o.len o.numbers.items c.args.self.now c.args.other.now (ap (λ (x : Table). x.layout) c.self.view_is) (ap (λ (x : Table). x.layout) c.other.view_is) c.requires.alike c.other.invariant in
    let low = start_shown o.layout o.len o.numbers.items c.args.other.now j c.other.view_is c.requires.there in
    let new = range_rows l o.len i j o.numbers.items rows c.requires.order low c.deref.result.now c.deref.ensures.value in
    subst (AreRows l (t.len + (j - i))) (sym c.in_ok-extend_from_slice.ensures.items) (rows_append l t.len (j - i) (t.len + (j - i)) t.numbers.items _ refl c.self.invariant new)

pub returns-clause-ok : goal.returns-clause-ok
returns-clause-ok c =
    let t = c.self.inside in
    let o = c.other.inside in
    let l = t.layout in
    let i = c.args.from in
    let j = c.args.end in
    let mine = ap (λ (x : Table). x.layout) c.self.view_is in
    let theirs = ap (λ (x : Table). x.layout) c.other.view_is in
    let same : l ≡ o.layout = mine ∙ c.requires.alike ∙ sym theirs in
    let rows = alike_rows l o.layout o.len o.numbers.items c.args.self.now c.args.other.now mine theirs c.requires.alike c.other.invariant in
    let low = start_shown o.layout o.len o.numbers.items c.args.other.now j c.other.view_is c.requires.there in
    let rest = range_seen l o.len i j o.numbers.items rows c.requires.order low c.deref.result.now c.deref.ensures.value
    ∙ ap (λ (x : Layout). take (j - i) (drop i (entries_in x o.len o.numbers.items))) same ∙ ap (λ (x : Table). take (j - i) (drop i x.entries)) c.other.view_is in
    ap (entries_in l (t.len + (j - i))) c.in_ok-extend_from_slice.ensures.items
    ∙ seen_append l t.len (j - i) (t.len + (j - i)) t.numbers.items _ refl c.self.invariant.long
    ∙ ap₂ (λ es fs. es ++ fs) (ap (λ (x : Table). x.entries) c.self.view_is) rest

pub offset_bounds-deref-start : goal.offset_bounds-deref-start
offset_bounds-deref-start c =
    let t = c.self.inside in
    let o = c.other.inside in
    let rows = alike_rows t.layout o.layout o.len o.numbers.items c.args.self.now c.args.other.now (ap (λ (x : Table). x.layout) c.self.view_is) (ap (λ (x : Table). x.layout) c.other.view_is) c.requires.alike c.other.invariant in
    let ends = range_ends t.layout o.len c.args.from c.args.end o.numbers.items rows c.requires.order (start_shown o.layout o.len o.numbers.items c.args.other.now c.args.end c.other.view_is c.requires.there) in
    let first = ends.0 in
    let last = ends.1 in
    let same = ap length c.deref.ensures.value in
    let most = c.deref.type_inv.1 in
    omega (arith, first, last, same, most)

pub slice_bounds-extend_from_slice-end : goal.slice_bounds-extend_from_slice-end
slice_bounds-extend_from_slice-end c =
    let t = c.self.inside in
    let o = c.other.inside in
    let rows = alike_rows t.layout o.layout o.len o.numbers.items c.args.self.now c.args.other.now (ap (λ (x : Table). x.layout) c.self.view_is) (ap (λ (x : Table). x.layout) c.other.view_is) c.requires.alike c.other.invariant in
    let ends = range_ends t.layout o.len c.args.from c.args.end o.numbers.items rows c.requires.order (start_shown o.layout o.len o.numbers.items c.args.other.now c.args.end c.other.view_is c.requires.there) in
    let last = ends.1 in
    let same = ap length c.deref.ensures.value in
    omega (arith, last, same)
