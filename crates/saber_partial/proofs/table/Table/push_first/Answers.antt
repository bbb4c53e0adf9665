use Rattle.std.proofs.Common.{◌≡◌, ◌+◌, [], ◌∷◌, ◌++◌, length, take, sym, ap, ◌∙◌, subst, arith}
use Rattle.std.proofs.lemmas.List.{take_at, take_all}
use Rattle.saber_plan.specs.Trees.{tree_of}
use Rattle.saber_plan.specs.Parts.{numbers}
use Rattle.saber_partial.specs.Flat.{Table, entries_in, AreRows}
use Rattle.saber_partial.proofs.FlatRows.{put_behind, rows_push, seen_push}
use Rattle.saber_partial.proofs.table.Table.push_first.Goals as goal

pub invariant_of-self-2 : goal.invariant_of-self-2
invariant_of-self-2 c =
    let t = c.self.inside in
    let l = t.layout in
    let xs = c.resize.new.self.items in
    let r = c.write_first.ensures.row in
    let start : c.len-start.result ≡ length t.numbers.items = c.len-start.ensures ∙ t.numbers.ok.0 in
    let all : take (c.len-start.result + l.width) t.numbers.items ≡ t.numbers.items = take_all (c.len-start.result + l.width) t.numbers.items (omega (arith, start)) in
    let old : take c.len-start.result xs ≡ t.numbers.items =
    ap (take c.len-start.result) c.in_ok-resize.ensures.items ∙ take_at (take (c.len-start.result + l.width) t.numbers.items) _ c.len-start.result (ap length all ∙ sym start) ∙ all in
    let new = put_behind c.len-start.result l.width c.resize.new.self.len t.numbers.items xs c.deref_mut.result.now c.write_first.new.xs old c.deref_mut.ensures.value (sym c.resize.new.self.ok.0) c.in_ok-resize.ensures.len r.long in
    subst (AreRows l (t.len + 1)) (sym new) (rows_push l t.len t.numbers.items c.write_first.new.xs c.self.invariant r)

pub returns-clause-ok : goal.returns-clause-ok
returns-clause-ok c =
    let t = c.self.inside in
    let l = t.layout in
    let xs = c.resize.new.self.items in
    let r = c.write_first.ensures.row in
    let start : c.len-start.result ≡ length t.numbers.items = c.len-start.ensures ∙ t.numbers.ok.0 in
    let all : take (c.len-start.result + l.width) t.numbers.items ≡ t.numbers.items = take_all (c.len-start.result + l.width) t.numbers.items (omega (arith, start)) in
    let old : take c.len-start.result xs ≡ t.numbers.items =
    ap (take c.len-start.result) c.in_ok-resize.ensures.items ∙ take_at (take (c.len-start.result + l.width) t.numbers.items) _ c.len-start.result (ap length all ∙ sym start) ∙ all in
    let new = put_behind c.len-start.result l.width c.resize.new.self.len t.numbers.items xs c.deref_mut.result.now c.write_first.new.xs old c.deref_mut.ensures.value (sym c.resize.new.self.ok.0) c.in_ok-resize.ensures.len r.long in
    ap (entries_in l (t.len + 1)) new
    ∙ seen_push l t.len t.numbers.items c.write_first.new.xs c.self.invariant r
    ∙ ap (λ e. entries_in l t.len t.numbers.items ++ e ∷ []) c.write_first.ensures.first
    ∙ ap (λ (x : Table). x.entries ++ (c.args.key.now, numbers (tree_of c.args.aggregates.now).aggregates (c.args.row.now.values ∷ [])) ∷ []) c.self.view_is
