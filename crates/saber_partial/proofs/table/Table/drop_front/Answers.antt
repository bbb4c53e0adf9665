use Rattle.std.proofs.Common.{◌-◌, drop, sym, ap, ◌∙◌, subst, arith}
use Rattle.saber_partial.specs.Flat.{Table, entries_in, AreRows}
use Rattle.saber_partial.proofs.FlatRows.{behind_rows, seen_behind, start_ends, start_shown}
use Rattle.saber_partial.proofs.table.Table.drop_front.Goals as goal

pub overflow_sub-self : goal.overflow_sub-self
overflow_sub-self c =
    let t = c.self.inside in
    start_shown t.layout t.len t.numbers.items c.args.self.now c.args.count c.self.view_is c.requires

pub overflow_mul-count : goal.overflow_mul-count
overflow_mul-count c =
    let t = c.self.inside in
    let ends = start_ends t.layout t.len c.args.count t.numbers.items c.self.invariant (start_shown t.layout t.len t.numbers.items c.args.self.now c.args.count c.self.view_is c.requires) in
    let long = t.numbers.ok.0 in
    let rest = t.numbers.ok.1 in
    omega (arith, ends, long, rest)

pub drop_numbers-requires : goal.drop_numbers-requires
drop_numbers-requires c =
    let t = c.self.inside in
    start_ends t.layout t.len c.args.count t.numbers.items c.self.invariant (start_shown t.layout t.len t.numbers.items c.args.self.now c.args.count c.self.view_is c.requires)

pub invariant_of-self : goal.invariant_of-self
invariant_of-self c =
    let t = c.self.inside in
    let low = start_shown t.layout t.len t.numbers.items c.args.self.now c.args.count c.self.view_is c.requires in
    subst (AreRows t.layout (t.len - c.args.count)) (sym c.drop_numbers.ensures) (behind_rows t.layout t.len c.args.count t.numbers.items c.self.invariant low)

pub returns-clause-rest : goal.returns-clause-rest
returns-clause-rest c =
    let t = c.self.inside in
    let low = start_shown t.layout t.len t.numbers.items c.args.self.now c.args.count c.self.view_is c.requires in
    ap (entries_in t.layout (t.len - c.args.count)) c.drop_numbers.ensures
    ∙ seen_behind t.layout t.len c.args.count t.numbers.items c.self.invariant low ∙ ap (λ (x : Table). drop c.args.count x.entries) c.self.view_is
