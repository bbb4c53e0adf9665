use Rattle.std.proofs.Common.{◌≡◌, ◌<◌, ◌+◌, ◌++◌, [], ◌∷◌, length, get_or, drop, sym, ◌∙◌, ap, append_assoc, arith}
use Rattle.std.proofs.lemmas.Option.{get_or_from_slice_get}
use Rattle.saber_join.proofs.Passing.{drop_at}
use Rattle.saber_join.proofs.back.rest_of.Goals as goal

pub loop-i-preserved : goal.loop-i-preserved
loop-i-preserved c =
    let k = c.loop-i.i in
    let r = c.row.result in
    let rows = c.args.rows.now in
    let below : k < length rows = omega (arith, c.loop-i-test.true, c.len-i-end.ensures) in
    let at : get_or rows k r ≡ r = get_or_from_slice_get rows k r r (sym c.row.ensures) in
    record {
      rest = ap (λ l. l ++ drop (k + 1) rows) c.in_ok-push.ensures.ok
          ∙ append_assoc c.loop-i.rest (r ∷ []) (drop (k + 1) rows)
          ∙ ap (λ l. c.loop-i.rest ++ l) (sym (drop_at rows k r below at))
          ∙ c.loop-i.invariant.rest;
    }
