use Rattle.std.proofs.Common.{◌≤◌, ◌<◌, ◌+◌, ◌++◌, ◌∷◌, [], length, take, drop, sym, ◌∙◌, ap, subst, rules, append_assoc}
use Rattle.std.proofs.lemmas.List.{take_all}
use Rattle.saber_plan.specs.Tasks.{places_after}
use Rattle.saber_places.specs.Counting.{Counts}
use Rattle.saber_places.proofs.Counted.{next_fits, taken_more, places_more, last_places}
use Rattle.saber_places.proofs.places.Places.places.Goals as goal

pub place-requires : goal.place-requires
place-requires c =
    let (q, xs, k, f) = c.requires in
    let i = c.loop-i.i in
    let less : i < length c.args.rows.now = search rules in
    let n = next_fits xs c.args.rows.now i c.row.result less c.row.ensures q f in
    (q, xs ++ take i c.args.rows.now, c.loop-i.invariant.counts q xs k, n.0, n.1)

pub loop-i-preserved : goal.loop-i-preserved
loop-i-preserved c =
    let rows = c.args.rows.now in
    let i = c.loop-i.i in
    let less : i < length rows = search rules in
    record {
      stand = λ q xs k.
          let was = c.loop-i.invariant.counts q xs k in
          let rest = places_after q (xs ++ take (i + 1) rows) (drop (i + 1) rows) in
          ap (λ l. l ++ rest) c.in_ok-push.ensures.items
          ∙ append_assoc c.loop-i.places.items (c.in_ok-place.place ∷ []) rest
          ∙ ap (λ p. c.loop-i.places.items ++ p ∷ rest) (c.in_ok-place.ensures.stands q (xs ++ take i rows) was)
          ∙ ap (λ l. c.loop-i.places.items ++ l) (sym (places_more xs rows i c.row.result less c.row.ensures q))
          ∙ c.loop-i.invariant.stand q xs k;
      counts = λ q xs k. subst (λ l. Counts q l c.place.new.self) (taken_more xs rows i c.row.result less c.row.ensures) (c.in_ok-place.ensures.counts q (xs ++ take i rows) (c.loop-i.invariant.counts q xs k));
    }

pub returns-clause-stand : goal.returns-clause-stand
returns-clause-stand c q xs k =
    let far : length c.args.rows.now ≤ c.loop-i.i = search rules in
    last_places q xs c.args.rows.now c.loop-i.i c.loop-i.places.items far (c.loop-i.invariant.stand q xs k)

pub returns-clause-counts : goal.returns-clause-counts
returns-clause-counts c q xs k =
    let far : length c.args.rows.now ≤ c.loop-i.i = search rules in
    subst (λ l. Counts q (xs ++ l) c.loop-i.self) (take_all c.loop-i.i c.args.rows.now far) (c.loop-i.invariant.counts q xs k)
