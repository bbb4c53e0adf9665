use Rattle.std.proofs.Common.{◌+◌, [], ◌∷◌, ◌++◌, sym, ap, ◌∙◌, subst}
use Rattle.saber_partial.specs.Flat.{Table, entry_in, entries_in, IsRow, AreRows}
use Rattle.saber_partial.proofs.FlatRows.{rows_push, seen_push}
use Rattle.saber_partial.proofs.table.Table.push.Goals as goal

pub invariant_of-self-2 : goal.invariant_of-self-2
invariant_of-self-2 c =
    let t = c.self.inside in
    let row = subst (λ (x : Table). IsRow x.layout c.args.row.now) (sym c.self.view_is) c.requires in
    subst (AreRows t.layout (t.len + 1)) (sym c.in_ok-extend_from_slice.ensures.items) (rows_push t.layout t.len t.numbers.items c.args.row.now c.self.invariant row)

pub returns-clause-ok : goal.returns-clause-ok
returns-clause-ok c =
    let t = c.self.inside in
    let r = c.args.row.now in
    let row = subst (λ (x : Table). IsRow x.layout r) (sym c.self.view_is) c.requires in
    ap (entries_in t.layout (t.len + 1)) c.in_ok-extend_from_slice.ensures.items
    ∙ seen_push t.layout t.len t.numbers.items r c.self.invariant row
    ∙ ap (λ (x : Table). x.entries ++ entry_in x.layout r ∷ []) c.self.view_is
