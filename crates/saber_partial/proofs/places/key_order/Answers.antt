use Rattle.std.proofs.Common.{◌≡◌, ◌<◌, List, [], ◌∷◌, length, drop, ℤ, sym, ◌∙◌, ap, refl, arith}
use Rattle.std.proofs.lemmas.List.{drop_all, length-drop}
use Rattle.std.specs.declared.cmp.Ordering.TheVariants.{Less, Greater}
use Rattle.saber_plan.specs.Answers.{key_cmp}
use Rattle.saber_partial.proofs.places.key_order.Goals as goal

longer : (xs : List ℤ) → 0 < length xs → Greater ≡ key_cmp xs []
longer [] h = absurd (omega (arith, h))
longer (x ∷ xs) h = refl

shorter : (ys : List ℤ) → 0 < length ys → Less ≡ key_cmp [] ys
shorter [] h = absurd (omega (arith, h))
shorter (y ∷ ys) h = refl

pub returns-then-i-other : goal.returns-then-i-other
returns-then-i-other c =
    let i = c.loop-i.i in
    let low = c.loop-i-test.true in
    let long = length-drop i c.args.key.now in
    let end = c.if-i-other.true in
    longer (drop i c.args.key.now) (omega (arith, low, long)) ∙ ap (key_cmp (drop i c.args.key.now)) (sym (drop_all i c.args.other.now (omega (arith, end)))) ∙ c.loop-i.invariant.rest

pub returns-then-key-other : goal.returns-then-key-other
returns-then-key-other c =
    let i = c.loop-i.i in
    let low = c.if-key-other.true in
    let long = length-drop i c.args.other.now in
    let end = c.loop-i-test.false in
    let last = c.loop-i.auto.i-end in
    shorter (drop i c.args.other.now) (omega (arith, low, long, end, last)) ∙ ap (λ (l : List ℤ). key_cmp l (drop i c.args.other.now)) (sym (drop_all i c.args.key.now end)) ∙ c.loop-i.invariant.rest
