use Rattle.std.proofs.Common.{ap, ◌∙◌}
use Rattle.saber_flat.specs.Places.{rows_at, Building}
use Rattle.saber_flat.proofs.PlaceFacts.{rows-take}
use Rattle.saber_flat.proofs.builder.RowBuilder.drop_begun.Goals as goal

pub returns-clause-rows : goal.returns-clause-rows
returns-clause-rows c =
    ap (λ l. rows_at l c.self.inside.places.items) c.truncate.ensures.items
    ∙ rows-take c.self.inside.numbers.items c.self.inside.from c.self.inside.places.items c.self.invariant.0
    ∙ ap (λ (b : Building). b.rows) c.self.view_is
