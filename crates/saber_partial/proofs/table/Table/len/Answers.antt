use Rattle.std.proofs.Common.{sym, ap, ◌∙◌, length}
use Rattle.saber_partial.specs.Flat.{Table}
use Rattle.saber_partial.proofs.FlatRows.{length-entries}
use Rattle.saber_partial.proofs.table.Table.len.Goals as goal

pub returns : goal.returns
returns c =
    let t = c.self.inside in
    sym (length-entries t.layout t.len t.numbers.items) ∙ ap (λ (x : Table). length x.entries) c.self.view_is
