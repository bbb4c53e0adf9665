use Rattle.std.proofs.Common.{◌≡◌, ◌+◌, ◌*◌, ℕ, List, [], ◌∷◌, ◌++◌, refl, ap, ◌∙◌, arith}
use Rattle.std.proofs.lemmas.List.{replicate_more}
use Rattle.saber_ring.specs.declared.view.SlotValue.{SlotValue}
use Rattle.saber_ring.specs.declared.view.SlotValue.TheVariants.{Empty, Stage}
use Rattle.saber_ring.specs.Opening.{with_empties}
use Rattle.saber_ring.proofs.opening.first_slots.Goals as goal

module _ {R P S : Type 0} where
  first : (stage : S) (slots new : List (SlotValue R P S)) → slots ≡ [] → new ≡ slots ++ Stage stage ∷ [] → new ≡ with_empties 0 stage
  first stage slots new none more = more ∙ ap (λ (values : List (SlotValue R P S)). values ++ Stage stage ∷ []) none

  further : (stage : S) (n : ℕ) (slots new : List (SlotValue R P S)) → slots ≡ with_empties n stage → new ≡ slots ++ Empty ∷ [] → new ≡ with_empties (n + 1) stage
  further stage n slots new is more =
      more ∙ ap (λ (values : List (SlotValue R P S)). values ++ Empty ∷ []) is ∙ ap (λ (values : List (SlotValue R P S)). Stage stage ∷ values) (replicate_more n Empty)

pub loop-init : goal.loop-init
loop-init g c =
    let long = c.push_reserved.ensures.len in let none = c.in-Ok.ensures.len in let room = c.push_reserved.ensures.capacity in let has = c.in-Ok.ensures.capacity in
    (first c.args.stage c.in-Ok.slots.items c.push_reserved.new.self.items c.in-Ok.ensures.items c.push_reserved.ensures.items, omega arith, omega arith, refl)

pub loop-preserved : goal.loop-preserved
loop-preserved g c =
    let i = c.loop.invariant in let e = c.push_reserved-in-loop.ensures in let long = e.len in let room = e.capacity in let before = i.1 in let has = i.2 in
    (further c.args.stage c.loop.counter c.loop.slots.items c.push_reserved-in-loop.new.self.items i.0 e.items, omega arith, omega arith, refl)

pub returns : goal.returns
returns g c =
    let i = c.loop.invariant in
    let all : c.loop.counter ≡ 2 * c.args.size = omega arith in
    i.0 ∙ ap (λ (n : ℕ). with_empties n c.args.stage) all
