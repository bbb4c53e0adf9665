use Rattle.std.proofs.Common.{ap, sym, ◌∙◌, subst, arith}
use Rattle.saber_partial.specs.declared.layout.Layout.{Layout}
use Rattle.saber_partial.specs.Flat.{entry_in}
use Rattle.saber_partial.specs.Ones.{AreKeyless, IsOne}
use Rattle.saber_partial.specs.Sorted.{alone}
use Rattle.saber_partial.proofs.OneRows.{only_one}
use Rattle.saber_partial.proofs.groups.Partial.first.Goals as goal

pub returns-clause-one : goal.returns-clause-one
returns-clause-one c = λ keyless.
    let es = c.self.inside.groups.entries in
    let r = c.row.result.now in
    let d = entry_in c.self.inside.groups.layout r in
    let long = c.len.ensures in
    let some = c.if-len-eq0.false in
    let only = only_one es d c.self.invariant (omega (arith, long, some)) (subst AreKeyless (sym c.self.view_is) keyless) in
    let seen = ap (λ (l : Layout). alone (entry_in l r)) c.layout.ensures.layout ∙ ap alone (c.row.ensures.entry d) in
    (seen ∙ only.0 ∙ c.self.view_is, subst IsOne (sym seen) only.1)
