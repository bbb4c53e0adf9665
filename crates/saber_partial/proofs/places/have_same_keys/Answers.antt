use Rattle.std.proofs.Common.{◌≡◌, ◌<◌, sym, ◌∙◌, Bool, true, false, not, refl, int_eq, length, arith}
use Rattle.std.specs.Cmp.{signed_Decides}
use Rattle.std.specs.Cmp.Lexicographic.{pointwise}
use Rattle.std.proofs.lemmas.Slice.Eq.{slice_eq-Decides}
use Rattle.saber_partial.proofs.Rising.{keys_more}
use Rattle.saber_partial.proofs.places.have_same_keys.Goals as goal

unless : (b : Bool) → not b ≡ false → true ≡ b
unless true e = refl
unless false e = cc

pub loop-i-preserved : goal.loop-i-preserved
loop-i-preserved c =
    let i = c.loop-i.i in
    let es = c.args.groups.now.entries in
    let fs = c.args.others.now.entries in
    let a = c.key.result.now in
    let b = c.key-in-loop-i.result.now in
    let low : i < length es = omega (arith, c.loop-i-test.true, c.len-i-end.ensures) in
    let more : i < length fs = omega (arith, low, c.if-len.false, c.len.ensures, c.len-2.ensures) in
    let alike : true ≡ pointwise int_eq a b = unless (pointwise int_eq a b) (sym c.ne.ensures ∙ c.if-ne.false) in
    let same : a ≡ b = (slice_eq-Decides signed_Decides a b true alike).0 refl in
    λ h. c.loop-i.invariant (keys_more es fs i low more (λ d. sym (c.key.ensures d) ∙ same ∙ c.key-in-loop-i.ensures d) h)
