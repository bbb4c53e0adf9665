use Rattle.std.proofs.Common.{◌≡◌, ◌++◌, ◌∷◌, [], length, ap, subst, sym, ◌∙◌, refl, rules}
use Rattle.saber_select.specs.declared.picked.Spot.{Spot}
use Rattle.saber_select.specs.Found.{AllBelow, Rises}
use Rattle.saber_select.specs.Spots.{found_in, AreWithin}
use Rattle.saber_select.proofs.Spotting.{kept_within, kept_rising, put_found, put_within, put_rising}
use Rattle.saber_select.proofs.picked.Picked.put.Goals as goal

pub invariant_of-self-in_err-push : goal.invariant_of-self-in_err-push
invariant_of-self-in_err-push c =
    let xs = c.self.inside.numbers.items in
    let ss = c.self.inside.spots.items in
    let now = c.extend_from_slice.new.self.items in
    let items : now ≡ xs ++ c.args.values.now = c.in_ok-extend_from_slice.ensures.items in
    let same : ss ≡ c.push.new.self.items = sym c.in_err-push.ensures.items in (
      subst (AreWithin (length now)) same (kept_within xs c.args.values.now now ss c.self.invariant.0 items),
      subst (λ l. Rises (found_in now l)) same (kept_rising xs c.args.values.now now ss c.self.invariant.0 items c.self.invariant.1),
    )

pub invariant_of-self-2 : goal.invariant_of-self-2
invariant_of-self-2 c =
    let xs = c.self.inside.numbers.items in
    let now = c.extend_from_slice.new.self.items in
    let s : Spot = record { place = c.args.place; start = c.len-start.result; end = c.len-end.result } in
    let items : now ≡ xs ++ c.args.values.now = c.in_ok-extend_from_slice.ensures.items in
    let start : c.len-start.result ≡ length xs = search rules in
    let end : c.len-end.result ≡ length now = search rules in
    let below = subst (AllBelow c.args.place) (sym c.self.view_is) c.requires in (
      put_within xs c.args.values.now now c.self.inside.spots.items c.push.new.self.items s c.args.place c.self.invariant.0 items refl start end c.in_ok-push.ensures.items,
      put_rising xs c.args.values.now now c.self.inside.spots.items c.push.new.self.items s c.args.place c.self.invariant.0 items refl start end c.in_ok-push.ensures.items c.self.invariant.1 below,
    )

pub returns : goal.returns
returns c =
    let xs = c.self.inside.numbers.items in
    let now = c.extend_from_slice.new.self.items in
    let s : Spot = record { place = c.args.place; start = c.len-start.result; end = c.len-end.result } in
    let items : now ≡ xs ++ c.args.values.now = c.in_ok-extend_from_slice.ensures.items in
    let start : c.len-start.result ≡ length xs = search rules in
    let end : c.len-end.result ≡ length now = search rules in
    put_found xs c.args.values.now now c.self.inside.spots.items c.push.new.self.items s c.args.place c.self.invariant.0 items refl start end c.in_ok-push.ensures.items
    ∙ ap (λ es. es ++ (c.args.place, c.args.values.now) ∷ []) c.self.view_is
