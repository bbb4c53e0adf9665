use Rattle.std.proofs.Common.{◌+◌, ◌*◌, List, ℤ, length, take, drop, get_or, sym, ap, ◌∙◌, subst, subst₂, arith}
use Rattle.std.proofs.Math.ListN.{set}
use Rattle.saber_plan.specs.Parts.{Numbers, join_numbers}
use Rattle.saber_partial.specs.Flat.{Table, entry_in, entries_in, IsRow, AreRows}
use Rattle.saber_partial.specs.Tallies.{CanJoin}
use Rattle.saber_partial.proofs.FlatRows.{part_here, put_over}
use Rattle.saber_partial.proofs.RowPairs.{mine_is, mine_seen, next_shown, pair_ends, pair_long, pair_written, rows_pair, theirs_is, theirs_seen}
use Rattle.saber_partial.proofs.table.Table.join_next.Goals as goal

pub overflow_mul-start : goal.overflow_mul-start
overflow_mul-start c =
    let t = c.self.inside in
    let l = t.layout in
    let i = c.args.i in
    let xs = t.numbers.items in
    let low = next_shown l t.len xs c.args.self.now i c.self.view_is c.requires.there in
    let ends = pair_ends l t.len i xs c.self.invariant low in
    let long = t.numbers.ok.0 in
    let rest = t.numbers.ok.1 in
    omega (arith, ends, long, rest)

pub overflow_add-end : goal.overflow_add-end
overflow_add-end c =
    let t = c.self.inside in
    let l = t.layout in
    let i = c.args.i in
    let xs = t.numbers.items in
    let low = next_shown l t.len xs c.args.self.now i c.self.view_is c.requires.there in
    let ends = pair_ends l t.len i xs c.self.invariant low in
    let long = t.numbers.ok.0 in
    let rest = t.numbers.ok.1 in
    omega (arith, ends, long, rest)

pub overflow_add-end-2 : goal.overflow_add-end-2
overflow_add-end-2 c =
    let t = c.self.inside in
    let l = t.layout in
    let i = c.args.i in
    let xs = t.numbers.items in
    let low = next_shown l t.len xs c.args.self.now i c.self.view_is c.requires.there in
    let ends = pair_ends l t.len i xs c.self.invariant low in
    let long = t.numbers.ok.0 in
    let rest = t.numbers.ok.1 in
    omega (arith, ends, long, rest)

pub offset_bounds-deref_mut-start : goal.offset_bounds-deref_mut-start
offset_bounds-deref_mut-start c =
    let t = c.self.inside in
    let l = t.layout in
    let i = c.args.i in
    let xs = t.numbers.items in
    let low = next_shown l t.len xs c.args.self.now i c.self.view_is c.requires.there in
    let ends = pair_ends l t.len i xs c.self.invariant low in
    let same = ap length c.deref_mut.ensures.value in
    let most = c.deref_mut.type_inv.1 in
    omega (arith, ends, same, most)

pub slice_bounds-join_side-end : goal.slice_bounds-join_side-end
slice_bounds-join_side-end c =
    let t = c.self.inside in
    let l = t.layout in
    let i = c.args.i in
    let xs = t.numbers.items in
    let low = next_shown l t.len xs c.args.self.now i c.self.view_is c.requires.there in
    let ends = pair_ends l t.len i xs c.self.invariant low in
    let same = ap length c.deref_mut.ensures.value in
    omega (arith, ends, same)

pub join_side-requires-clause-long : goal.join_side-requires-clause-long
join_side-requires-clause-long c =
    let t = c.self.inside in
    let l = t.layout in
    let i = c.args.i in
    let xs = t.numbers.items in
    let low = next_shown l t.len xs c.args.self.now i c.self.view_is c.requires.there in
    ap length (part_here (l.width + l.width) (i * l.width) c.deref_mut.result.now xs c.deref_mut.ensures.value) ∙ pair_long l t.len i xs c.self.invariant low

pub join_side-requires-clause-mine : goal.join_side-requires-clause-mine
join_side-requires-clause-mine c =
    let t = c.self.inside in
    let l = t.layout in
    let i = c.args.i in
    let xs = t.numbers.items in
    let low = next_shown l t.len xs c.args.self.now i c.self.view_is c.requires.there in
    subst (λ (r : List ℤ). IsRow l (take l.width r)) (sym (part_here (l.width + l.width) (i * l.width) c.deref_mut.result.now xs c.deref_mut.ensures.value)) (mine_is l t.len i xs c.self.invariant low)

pub join_side-requires-clause-theirs : goal.join_side-requires-clause-theirs
join_side-requires-clause-theirs c =
    let t = c.self.inside in
    let l = t.layout in
    let i = c.args.i in
    let xs = t.numbers.items in
    let low = next_shown l t.len xs c.args.self.now i c.self.view_is c.requires.there in
    subst (λ (r : List ℤ). IsRow l (drop l.width r)) (sym (part_here (l.width + l.width) (i * l.width) c.deref_mut.result.now xs c.deref_mut.ensures.value)) (theirs_is l t.len i xs c.self.invariant low)

pub join_side-requires-clause-can : goal.join_side-requires-clause-can
join_side-requires-clause-can c =
    let t = c.self.inside in
    let l = t.layout in
    let i = c.args.i in
    let xs = t.numbers.items in
    let low = next_shown l t.len xs c.args.self.now i c.self.view_is c.requires.there in
    let seen = part_here (l.width + l.width) (i * l.width) c.deref_mut.result.now xs c.deref_mut.ensures.value in
    let e = entry_in l (take l.width (take (l.width + l.width) (drop (i * l.width) xs))) in
    let can = subst (λ (x : Table). CanJoin (get_or x.entries i e).1 (get_or x.entries (i + 1) e).1) (sym c.self.view_is) (c.requires.can e) in
    subst₂ (λ (x y : List ℤ × Numbers). CanJoin x.1 y.1)
    (sym (mine_seen l t.len i xs c.self.invariant low e) ∙ ap (λ r. entry_in l (take l.width r)) (sym seen))
    (sym (theirs_seen l t.len i xs c.self.invariant low e) ∙ ap (λ r. entry_in l (drop l.width r)) (sym seen)) can

pub invariant_of-self : goal.invariant_of-self
invariant_of-self c =
    let t = c.self.inside in
    let l = t.layout in
    let i = c.args.i in
    let xs = t.numbers.items in
    let low = next_shown l t.len xs c.args.self.now i c.self.view_is c.requires.there in
    let ends = pair_ends l t.len i xs c.self.invariant low in
    let seen = part_here (l.width + l.width) (i * l.width) c.deref_mut.result.now xs c.deref_mut.ensures.value in
    let r = c.join_side.ensures in
    let ys = c.join_side.new.rows in
    let new = put_over (i * l.width) (l.width + l.width) t.numbers.len xs c.deref_mut.result.now ys c.deref_mut.ensures.value (sym t.numbers.ok.0) (omega (arith, ends, t.numbers.ok.0)) r.long in
    subst (AreRows l t.len) (sym new) (rows_pair l t.len i xs c.self.invariant low ys r.long (r.same ∙ ap (drop l.width) seen) r.row)

pub returns-clause-joined : goal.returns-clause-joined
returns-clause-joined c = λ d.
    let t = c.self.inside in
    let l = t.layout in
    let i = c.args.i in
    let xs = t.numbers.items in
    let low = next_shown l t.len xs c.args.self.now i c.self.view_is c.requires.there in
    let ends = pair_ends l t.len i xs c.self.invariant low in
    let seen = part_here (l.width + l.width) (i * l.width) c.deref_mut.result.now xs c.deref_mut.ensures.value in
    let r = c.join_side.ensures in
    let ys = c.join_side.new.rows in
    let new = put_over (i * l.width) (l.width + l.width) t.numbers.len xs c.deref_mut.result.now ys c.deref_mut.ensures.value (sym t.numbers.ok.0) (omega (arith, ends, t.numbers.ok.0)) r.long in
    let mine = ap (λ r. entry_in l (take l.width r)) seen ∙ mine_seen l t.len i xs c.self.invariant low d in
    let theirs = ap (λ r. entry_in l (drop l.width r)) seen ∙ theirs_seen l t.len i xs c.self.invariant low d in
    let all = ap (entries_in l t.len) new
    ∙ pair_written l t.len i xs c.self.invariant low ys r.long (r.same ∙ ap (drop l.width) seen)
    ∙ ap (set (entries_in l t.len xs) i) (r.joined ∙ (λ k. ((mine k).0, join_numbers (mine k).1 (theirs k).1))) in
    all ∙ ap (λ (x : Table). set x.entries i ((get_or x.entries i d).0, join_numbers (get_or x.entries i d).1 (get_or x.entries (i + 1) d).1)) c.self.view_is
