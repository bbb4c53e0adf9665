use Rattle.std.proofs.Common.{◌≡◌, ℤ, ◌++◌, ◌∙◌, take, map, length, ap, sym, subst, subst₂, take_all, rules, arith, Vec, Global}
use Rattle.saber_select.specs.Found.{Precedes, Rises}
use Rattle.saber_select.specs.Spots.{found_in, AreWithin}
use Rattle.saber_select.proofs.Spotting.{moved, first_within, kept_within, kept_rising, first_merged, merged_found}
use Rattle.saber_select.proofs.picked.Picked.merge.Goals as goal

pub invariant_of-self-in_err-reserve : goal.invariant_of-self-in_err-reserve
invariant_of-self-in_err-reserve c =
    let xs = c.self.inside.numbers.items in
    let ys = c.later.inside.numbers.items in
    let ss = c.self.inside.spots.items in
    let now = c.extend_from_slice.new.self.items in
    let items : now ≡ xs ++ ys = cc (c.in_ok-extend_from_slice.ensures.items, c.deref.ensures.value) in
    let same : ss ≡ c.reserve.new.self.items = sym c.in_err-reserve.ensures.items in (
      subst (AreWithin (length now)) same (kept_within xs ys now ss c.self.invariant.0 items),
      subst (λ l. Rises (found_in now l)) same (kept_rising xs ys now ss c.self.invariant.0 items c.self.invariant.1),
    )

pub invariant_of-self-in-loop-spot : goal.invariant_of-self-in-loop-spot
invariant_of-self-in-loop-spot c =
    let xs = c.self.inside.numbers.items in
    let ys = c.later.inside.numbers.items in
    let ss = c.self.inside.spots.items in
    let ts = c.later.inside.spots.items in
    let k = c.loop-spot.spot-index in
    let items : c.loop-spot.self-inside.numbers.items ≡ xs ++ ys = ap (λ (v : Vec ℤ Global). v.items) c.loop-spot.invariant.0 ∙ cc (c.in_ok-extend_from_slice.ensures.items, c.deref.ensures.value) in
    let behind : c.len-behind.result ≡ length xs = search rules in
    let kept : c.reserve.new.self.items ≡ ss = search rules in
    let theirs : c.deref-spot-items.result.now ≡ ts = search rules in
    let spots : c.loop-spot.self-inside.spots.items ≡ ss ++ map (moved (length xs)) (take k ts) = c.loop-spot.invariant.1 ∙ (λ i. kept i ++ map (moved (behind i)) (take k (theirs i))) in
    let precedes = subst₂ Precedes (sym c.self.view_is) (sym c.later.view_is) c.requires in
    first_merged xs ys c.loop-spot.self-inside.numbers.items ss ts c.loop-spot.self-inside.spots.items k c.self.invariant.0 c.later.invariant.0 items spots c.self.invariant.1 c.later.invariant.1 precedes

pub invariant_of-self-in_err-push : goal.invariant_of-self-in_err-push
invariant_of-self-in_err-push c =
    let xs = c.self.inside.numbers.items in
    let ys = c.later.inside.numbers.items in
    let ss = c.self.inside.spots.items in
    let ts = c.later.inside.spots.items in
    let k = c.loop-spot.spot-index in
    let items : c.loop-spot.self-inside.numbers.items ≡ xs ++ ys = ap (λ (v : Vec ℤ Global). v.items) c.loop-spot.invariant.0 ∙ cc (c.in_ok-extend_from_slice.ensures.items, c.deref.ensures.value) in
    let behind : c.len-behind.result ≡ length xs = search rules in
    let kept : c.reserve.new.self.items ≡ ss = search rules in
    let theirs : c.deref-spot-items.result.now ≡ ts = search rules in
    let spots : c.push.new.self.items ≡ ss ++ map (moved (length xs)) (take k ts) = c.in_err-push.ensures.items ∙ c.loop-spot.invariant.1 ∙ (λ i. kept i ++ map (moved (behind i)) (take k (theirs i))) in
    let precedes = subst₂ Precedes (sym c.self.view_is) (sym c.later.view_is) c.requires in
    first_merged xs ys c.loop-spot.self-inside.numbers.items ss ts c.push.new.self.items k c.self.invariant.0 c.later.invariant.0 items spots c.self.invariant.1 c.later.invariant.1 precedes

pub returns : goal.returns
returns c =
    let xs = c.self.inside.numbers.items in
    let ys = c.later.inside.numbers.items in
    let ss = c.self.inside.spots.items in
    let ts = c.later.inside.spots.items in
    let k = c.loop-spot.spot-index in
    let items : c.loop-spot.self-inside.numbers.items ≡ xs ++ ys = ap (λ (v : Vec ℤ Global). v.items) c.loop-spot.invariant.0 ∙ cc (c.in_ok-extend_from_slice.ensures.items, c.deref.ensures.value) in
    let behind : c.len-behind.result ≡ length xs = search rules in
    let kept : c.reserve.new.self.items ≡ ss = search rules in
    let theirs : c.deref-spot-items.result.now ≡ ts = search rules in
    let spots : c.loop-spot.self-inside.spots.items ≡ ss ++ map (moved (length xs)) (take k ts) = c.loop-spot.invariant.1 ∙ (λ i. kept i ++ map (moved (behind i)) (take k (theirs i))) in
    let all : take k ts ≡ ts = take_all k ts (omega (arith, ap length theirs)) in
    merged_found xs ys c.loop-spot.self-inside.numbers.items ss (take k ts) c.loop-spot.self-inside.spots.items c.self.invariant.0 (first_within (length ys) k ts c.later.invariant.0) items spots
    ∙ (λ i. c.self.view_is i ++ (ap (found_in ys) all ∙ c.later.view_is) i)
