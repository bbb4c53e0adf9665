use Rattle.std.proofs.Common.{◌≡◌, ◌++◌, ◌∷◌, [], List, length, ap, ◌∙◌, arith, rules}
use Rattle.saber_plan.specs.declared.rows.Row.{Row}
use Rattle.saber_flat.specs.declared.rows.Place.{Place}
use Rattle.saber_flat.specs.Places.{rows_at}
use Rattle.saber_flat.proofs.PlaceFacts.{rows-append, pushed_rows, pushed_below}
use Rattle.saber_flat.proofs.rows.Rows.push.Goals as goal

pub returns-in_err-push-clause-err : goal.returns-in_err-push-clause-err
returns-in_err-push-clause-err c =
    let items : c.extend_from_slice.new.self.items ≡ c.self.inside.numbers.items ++ c.args.row.now.values = cc c.in_ok-extend_from_slice.ensures.items in
    let same : rows_at c.extend_from_slice.new.self.items c.push.new.self.items ≡ c.args.self.now =
    ap (rows_at c.extend_from_slice.new.self.items) c.in_err-push.ensures.items
    ∙ ap (λ l. rows_at l c.self.inside.places.items) items
    ∙ rows-append c.self.inside.numbers.items c.args.row.now.values (length c.self.inside.numbers.items) c.self.inside.places.items (omega arith) c.self.invariant
    ∙ c.self.view_is in
    search rules

pub invariant_of-self-2 : goal.invariant_of-self-2
invariant_of-self-2 c =
    let p : Place = record { side = c.side.result; start = c.len-start.result; end = c.len-end.result } in
    let items : c.extend_from_slice.new.self.items ≡ c.self.inside.numbers.items ++ c.args.row.now.values = cc c.in_ok-extend_from_slice.ensures.items in
    let start : c.len-start.result ≡ length c.self.inside.numbers.items = search rules in
    let end : c.len-end.result ≡ length c.extend_from_slice.new.self.items = search rules in
    pushed_below c.self.inside.numbers.items c.extend_from_slice.new.self.items c.args.row.now c.self.inside.places.items c.push.new.self.items p c.self.invariant
    items c.side.ensures start end c.in_ok-push.ensures.items

pub returns-clause-ok : goal.returns-clause-ok
returns-clause-ok c =
    let p : Place = record { side = c.side.result; start = c.len-start.result; end = c.len-end.result } in
    let items : c.extend_from_slice.new.self.items ≡ c.self.inside.numbers.items ++ c.args.row.now.values = cc c.in_ok-extend_from_slice.ensures.items in
    let start : c.len-start.result ≡ length c.self.inside.numbers.items = search rules in
    let end : c.len-end.result ≡ length c.extend_from_slice.new.self.items = search rules in
    pushed_rows c.self.inside.numbers.items c.extend_from_slice.new.self.items c.args.row.now c.self.inside.places.items c.push.new.self.items p c.self.invariant
    items c.side.ensures start end c.in_ok-push.ensures.items
    ∙ ap (λ (l : List Row). l ++ c.args.row.now ∷ []) c.self.view_is
