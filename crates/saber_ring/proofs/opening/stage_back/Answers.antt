use Rattle.std.proofs.Common.{◌≡◌, ◌+◌, ◌-◌, ◌<◌, ℕ, zero, suc, List, [], ◌∷◌, ◌++◌, length, refl, sym, ap, ◌∙◌, arith}
use Rattle.std.specs.Prelude.{replicate}
use Rattle.std.proofs.lemmas.List.{length_push, length-replicate, same_from_push}
use Rattle.saber_ring.specs.declared.view.SlotValue.{SlotValue}
use Rattle.saber_ring.specs.declared.view.SlotValue.TheVariants.{Empty, Stage}
use Rattle.saber_ring.specs.Opening.{with_empties}
use Rattle.saber_ring.proofs.opening.stage_back.Goals as goal

module _ {R P S : Type 0} where
  -- of the stage and so many empty slots, the last one and those before it
  abbrev IsLastSlot : ℕ → S → List (SlotValue R P S) → SlotValue R P S → Type 0
  IsLastSlot zero stage rest value = (rest ≡ []) × (value ≡ Stage stage)
  IsLastSlot (suc n) stage rest value = (rest ≡ with_empties n stage) × (value ≡ Empty)

  one_more : (value : SlotValue R P S) (n : ℕ) → replicate (suc n) value ≡ replicate n value ++ value ∷ []
  one_more value zero = refl
  one_more value (suc n) = ap (λ (values : List (SlotValue R P S)). value ∷ values) (one_more value n)

  last_slot : (n : ℕ) (stage : S) (rest : List (SlotValue R P S)) (value : SlotValue R P S) → with_empties n stage ≡ rest ++ value ∷ [] → IsLastSlot n stage rest value
  last_slot zero stage rest value is = same_from_push rest [] value (Stage stage) (sym is)
  last_slot (suc n) stage rest value is =
      same_from_push rest (with_empties n stage) value Empty (sym is ∙ ap (λ (values : List (SlotValue R P S)). Stage stage ∷ values) (one_more Empty n))

  -- so many are what there is
  whole : (n : ℕ) (stage : S) (slots : List (SlotValue R P S)) → slots ≡ with_empties n stage → (slots ≡ with_empties (length slots - 1) stage) × (0 < length slots)
  whole n stage slots is =
      let long : length slots ≡ suc n = ap length is ∙ ap suc (length-replicate n Empty) in
      let same : n ≡ length slots - 1 = omega arith in
      (is ∙ ap (λ (k : ℕ). with_empties k stage) same, omega arith)

  -- the stage is the first slot
  at_stage : (n : ℕ) (stage found : S) (rest : List (SlotValue R P S)) (value : SlotValue R P S) → IsLastSlot n stage rest value → value ≡ Stage found → (stage ≡ found) × (rest ≡ [])
  at_stage zero stage found rest value last is = (cc, last.0)
  at_stage (suc n) stage found rest value last is = cc

  -- behind an empty slot is the stage with those before
  at_empty : (n : ℕ) (stage : S) (rest : List (SlotValue R P S)) (value : SlotValue R P S) → IsLastSlot n stage rest value → value ≡ Empty → (rest ≡ with_empties (length rest - 1) stage) × (0 < length rest)
  at_empty zero stage rest value last is = cc
  at_empty (suc n) stage rest value last is = whole n stage rest last.0

  -- and there is no other
  no_other : (n : ℕ) (stage : S) (rest : List (SlotValue R P S)) (value : SlotValue R P S) → IsLastSlot n stage rest value → (value ≡ Empty → ⊥) → ((s : S) → value ≡ Stage s → ⊥) → ⊥
  no_other zero stage rest value last some full = full stage last.1
  no_other (suc n) stage rest value last some full = some last.1

pub loop-value-init : goal.loop-value-init
loop-value-init g c = let w = whole c.requires.0 c.requires.1 c.args.slots.items c.requires.2 in (c.requires.1, w.0, w.1, w.0)

pub destroy_empty-requires : goal.destroy_empty-requires
destroy_empty-requires g c =
    let i = c.loop-value.invariant in
    let last = last_slot (length c.loop-value.slots.items - 1) i.0 c.pop.new.self.items c.in-Some.value (sym i.1 ∙ c.in-Some.ensures.items) in
    let none = at_stage (length c.loop-value.slots.items - 1) i.0 c.in-Stage.stage c.pop.new.self.items c.in-Some.value last c.in-Stage.is in
    let long = c.pop.new.self.ok.0 in let empty : length c.pop.new.self.items ≡ 0 = ap length none.1 in omega arith

pub returns-in-Stage : goal.returns-in-Stage
returns-in-Stage g c =
    let i = c.loop-value.invariant in
    let last = last_slot (length c.loop-value.slots.items - 1) i.0 c.pop.new.self.items c.in-Some.value (sym i.1 ∙ c.in-Some.ensures.items) in
    let none = at_stage (length c.loop-value.slots.items - 1) i.0 c.in-Stage.stage c.pop.new.self.items c.in-Some.value last c.in-Stage.is in
    i.3 ∙ ap (with_empties (length c.args.slots.items - 1)) none.0

pub loop-value-smaller : goal.loop-value-smaller
loop-value-smaller g c =
    let one : length c.loop-value.slots.items ≡ length c.pop.new.self.items + 1 = ap length c.in-Some.ensures.items ∙ length_push c.pop.new.self.items c.in-Some.value in
    let less : length c.pop.new.self.items < length c.loop-value.slots.items = omega arith in
    less

pub loop-value-preserved : goal.loop-value-preserved
loop-value-preserved g c =
    let i = c.loop-value.invariant in
    let last = last_slot (length c.loop-value.slots.items - 1) i.0 c.pop.new.self.items c.in-Some.value (sym i.1 ∙ c.in-Some.ensures.items) in
    let more = at_empty (length c.loop-value.slots.items - 1) i.0 c.pop.new.self.items c.in-Some.value last c.in-Empty.is in
    (i.0, more.0, more.1, i.3)

pub unreachable-requires : goal.unreachable-requires
unreachable-requires g c =
    let i = c.loop-value.invariant in
    let last = last_slot (length c.loop-value.slots.items - 1) i.0 c.pop.new.self.items c.in-Some.value (sym i.1 ∙ c.in-Some.ensures.items) in
    no_other (length c.loop-value.slots.items - 1) i.0 c.pop.new.self.items c.in-Some.value last c.in_default-value.not-Empty c.in_default-value.not-Stage

pub unreachable-requires-2 : goal.unreachable-requires-2
unreachable-requires-2 g c =
    let some = c.loop-value.invariant.2 in let none = c.in_default.ensures.cases.0 in let long = c.loop-value.slots.ok.0 in omega arith
