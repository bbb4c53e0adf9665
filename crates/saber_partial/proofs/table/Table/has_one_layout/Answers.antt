use Rattle.std.proofs.Common.{subst}
use Rattle.saber_partial.specs.Flat.{Table, HaveLayout, IsLayout}
use Rattle.saber_partial.proofs.FlatRows.{shown_layout}
use Rattle.saber_partial.proofs.table.Table.has_one_layout.Goals as goal

pub returns-clause-layout : goal.returns-clause-layout
returns-clause-layout c = subst (λ (x : Table). IsLayout x.layout) c.self.view_is c.self.invariant.layout

pub returns-clause-each : goal.returns-clause-each
returns-clause-each c =
    let t = c.self.inside in
    subst (λ (x : Table). HaveLayout x.layout x.entries) c.self.view_is (shown_layout t.layout t.len t.numbers.items c.self.invariant)
