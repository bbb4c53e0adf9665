use Rattle.std.proofs.Common.{sym, ap}
use Rattle.std.proofs.Math.Path.{transport}
use Rattle.saber_places.specs.Counting.{ArePlaced}
use Rattle.saber_dispatch.proofs.keeper.Keeper.pass_on.Goals as goal

pub returns-clause-places : goal.returns-clause-places
returns-clause-places c q xs h =
    let rows = ap (λ b. b.rows) c.with_kept.ensures.same in
    let places = ap (λ p. p.items) c.with_kept.ensures.places in
    transport (λ i. ArePlaced q xs (sym rows i) (sym places i) c.places_of.new.counter) (c.in_ok-places.ensures q xs h)
