use Rattle.std.proofs.Common.{[], ◌∷◌, ◌+◌, ◌*◌, sym, ap, ◌∙◌, subst, arith}
use Rattle.std.specs.List.{insert}
use Rattle.saber_plan.specs.Trees.{tree_of}
use Rattle.saber_plan.specs.Parts.{numbers}
use Rattle.saber_partial.specs.Flat.{Table, entries_in, AreRows}
use Rattle.saber_partial.proofs.FlatRows.{start_shown, start_ends, put_between, put_in, rows_put_in}
use Rattle.saber_partial.proofs.table.Table.insert_first.Goals as goal

pub overflow_mul-start : goal.overflow_mul-start
overflow_mul-start c =
    let t = c.self.inside in
    let ends = start_ends t.layout t.len c.args.i t.numbers.items c.self.invariant (start_shown t.layout t.len t.numbers.items c.args.self.now c.args.i c.self.view_is c.requires.there) in
    let long = t.numbers.ok.0 in
    let rest = t.numbers.ok.1 in
    omega (arith, ends, long, rest)

pub make_room-requires-clause-start : goal.make_room-requires-clause-start
make_room-requires-clause-start c =
    let t = c.self.inside in
    start_ends t.layout t.len c.args.i t.numbers.items c.self.invariant (start_shown t.layout t.len t.numbers.items c.args.self.now c.args.i c.self.view_is c.requires.there)

pub invariant_of-self-2 : goal.invariant_of-self-2
invariant_of-self-2 c =
    let t = c.self.inside in
    let l = t.layout in
    let i = c.args.i in
    let xs = t.numbers.items in
    let ms = c.make_room.new.numbers.items in
    let low = start_shown l t.len xs c.args.self.now i c.self.view_is c.requires.there in
    let ends = start_ends l t.len i xs c.self.invariant low in
    let r = c.write_first.ensures.row in
    let room = c.in_ok-make_room.ensures in
    let new = put_between (i * l.width) l.width c.make_room.new.numbers.len xs ms c.deref_mut.result.now c.write_first.new.xs c.deref_mut.ensures.value (sym c.make_room.new.numbers.ok.0) room.long ends r.long room.front room.behind in
    subst (AreRows l (t.len + 1)) (sym new) (rows_put_in l t.len i xs c.self.invariant low c.write_first.new.xs r)

pub returns-clause-ok : goal.returns-clause-ok
returns-clause-ok c =
    let t = c.self.inside in
    let l = t.layout in
    let i = c.args.i in
    let xs = t.numbers.items in
    let ms = c.make_room.new.numbers.items in
    let low = start_shown l t.len xs c.args.self.now i c.self.view_is c.requires.there in
    let ends = start_ends l t.len i xs c.self.invariant low in
    let r = c.write_first.ensures.row in
    let room = c.in_ok-make_room.ensures in
    let new = put_between (i * l.width) l.width c.make_room.new.numbers.len xs ms c.deref_mut.result.now c.write_first.new.xs c.deref_mut.ensures.value (sym c.make_room.new.numbers.ok.0) room.long ends r.long room.front room.behind in
    ap (entries_in l (t.len + 1)) new
    ∙ put_in l t.len i xs c.self.invariant low c.write_first.new.xs r.long
    ∙ ap (insert (entries_in l t.len xs) i) (c.write_first.ensures.first)
    ∙ ap (λ (x : Table). insert x.entries i (c.args.key.now, numbers (tree_of c.args.aggregates.now).aggregates (c.args.row.now.values ∷ []))) c.self.view_is
