use Rattle.std.proofs.Common.{subst, ◌∙◌}
use Rattle.saber_places.specs.Counting.{AreCounted}
use Rattle.saber_places.proofs.Counted.{placed_by}
use Rattle.saber_places.proofs.places.places_of.Goals as goal

pub returns-in_ok-stands-in-Some : goal.returns-in_ok-stands-in-Some
returns-in_ok-stands-in-Some c = λ q xs h.
    let k = subst (AreCounted q xs) c.in-Some.is h in
    record {
      places = c.in_ok-stands-in-Some.ensures.stand q xs k ∙ placed_by q q.partition xs c.args.rows.now k.some;
      counted = c.in_ok-stands-in-Some.ensures.counts q xs k;
    }
