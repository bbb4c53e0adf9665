use Rattle.std.proofs.Common.{◌≡◌, ℤ, ◌++◌, ◌∙◌, take, map, length, ap, take_all, rules, arith, Vec, Global}
use Rattle.saber_flat.specs.Places.{rows_at}
use Rattle.saber_flat.proofs.PlaceFacts.{moved, first_below, extended_rows, extended_below}
use Rattle.saber_flat.proofs.rows.Rows.extend.Goals as goal

pub invariant_of-self-in-loop-place : goal.invariant_of-self-in-loop-place
invariant_of-self-in-loop-place c =
    let xs = c.self.inside.numbers.items in
    let ys = c.rows.inside.numbers.items in
    let items : c.loop-place.self-inside.numbers.items ≡ xs ++ ys =
    ap (λ (v : Vec ℤ Global). v.items) c.loop-place.invariant.0 ∙ cc (c.in_ok-extend_from_slice.ensures.items, c.deref.ensures.value) in
    let behind : c.len-behind.result ≡ length xs = search rules in
    let kept : c.reserve.new.self.items ≡ c.self.inside.places.items = search rules in
    let theirs : c.deref-place-items.result.now ≡ c.rows.inside.places.items = search rules in
    let places : c.loop-place.self-inside.places.items ≡ c.self.inside.places.items ++ map (moved (length xs)) (take c.loop-place.place-index c.rows.inside.places.items) =
    c.loop-place.invariant.1 ∙ (λ i. kept i ++ map (moved (behind i)) (take c.loop-place.place-index (theirs i))) in
    extended_below xs ys c.loop-place.self-inside.numbers.items c.self.inside.places.items (take c.loop-place.place-index c.rows.inside.places.items)
    c.loop-place.self-inside.places.items c.self.invariant (first_below (length ys) c.loop-place.place-index c.rows.inside.places.items c.rows.invariant) items places

pub invariant_of-self-in_err-push : goal.invariant_of-self-in_err-push
invariant_of-self-in_err-push c =
    let xs = c.self.inside.numbers.items in
    let ys = c.rows.inside.numbers.items in
    let items : c.loop-place.self-inside.numbers.items ≡ xs ++ ys =
    ap (λ (v : Vec ℤ Global). v.items) c.loop-place.invariant.0 ∙ cc (c.in_ok-extend_from_slice.ensures.items, c.deref.ensures.value) in
    let behind : c.len-behind.result ≡ length xs = search rules in
    let kept : c.reserve.new.self.items ≡ c.self.inside.places.items = search rules in
    let theirs : c.deref-place-items.result.now ≡ c.rows.inside.places.items = search rules in
    let places : c.loop-place.self-inside.places.items ≡ c.self.inside.places.items ++ map (moved (length xs)) (take c.loop-place.place-index c.rows.inside.places.items) =
    c.loop-place.invariant.1 ∙ (λ i. kept i ++ map (moved (behind i)) (take c.loop-place.place-index (theirs i))) in
    extended_below xs ys c.loop-place.self-inside.numbers.items c.self.inside.places.items (take c.loop-place.place-index c.rows.inside.places.items)
    c.push.new.self.items c.self.invariant (first_below (length ys) c.loop-place.place-index c.rows.inside.places.items c.rows.invariant) items (c.in_err-push.ensures.items ∙ places)

pub returns : goal.returns
returns c =
    let xs = c.self.inside.numbers.items in
    let ys = c.rows.inside.numbers.items in
    let items : c.loop-place.self-inside.numbers.items ≡ xs ++ ys =
    ap (λ (v : Vec ℤ Global). v.items) c.loop-place.invariant.0 ∙ cc (c.in_ok-extend_from_slice.ensures.items, c.deref.ensures.value) in
    let behind : c.len-behind.result ≡ length xs = search rules in
    let kept : c.reserve.new.self.items ≡ c.self.inside.places.items = search rules in
    let theirs : c.deref-place-items.result.now ≡ c.rows.inside.places.items = search rules in
    let places : c.loop-place.self-inside.places.items ≡ c.self.inside.places.items ++ map (moved (length xs)) (take c.loop-place.place-index c.rows.inside.places.items) =
    c.loop-place.invariant.1 ∙ (λ i. kept i ++ map (moved (behind i)) (take c.loop-place.place-index (theirs i))) in
    let all : take c.loop-place.place-index c.rows.inside.places.items ≡ c.rows.inside.places.items =
    take_all c.loop-place.place-index c.rows.inside.places.items (omega (arith, ap length theirs)) in
    extended_rows xs ys c.loop-place.self-inside.numbers.items c.self.inside.places.items (take c.loop-place.place-index c.rows.inside.places.items)
    c.loop-place.self-inside.places.items c.self.invariant (first_below (length ys) c.loop-place.place-index c.rows.inside.places.items c.rows.invariant) items places
    ∙ (λ i. c.self.view_is i ++ (ap (rows_at ys) all ∙ c.rows.view_is) i)
