-- A ring as it is made.
use Rattle.std.specs.Prelude.{◌≡◌, ℕ, Bool, false, ◌+◌, ◌*◌, ◌<◌, List, ◌∷◌, length, slice_index, replicate, Option, Some, None}
use Rattle.saber_ring.specs.declared.view.SlotValue.{SlotValue}
use Rattle.saber_ring.specs.declared.view.SlotValue.TheVariants.{Empty, Stage}

-- word 0 is 0, cell b is IDLE(b), and block b was never filled
abbrev pub IsOpen : ℕ → List ℕ → Type 0
IsOpen size words =
    (length words ≡ 2 * size + 1) × (slice_index words 0 ≡ 0) × ((b : ℕ) → b < size → slice_index words (b + 1) ≡ 8 * b)
    × ((b : ℕ) → b < size → slice_index words (b + 1 + size) ≡ 4 * b)

-- the stage, and so many slots without a value
abbrev pub with_empties : {R P S : Type 0} → ℕ → S → List (SlotValue R P S)
with_empties n stage = Stage stage ∷ replicate n Empty

-- the stage, and no value for the cells and blocks
abbrev pub first_values : {R P S : Type 0} → ℕ → S → List (SlotValue R P S)
first_values size stage = with_empties (2 * size) stage

module _ {T S : Type 0} (is_told : T → ℕ → Type 0) (is_stage : T → ℕ → Bool → S → Type 0) (stage : S) where
  -- data are named, those of no task, and the stage runs and has assembled none
  abbrev pub Begins : Option T → Type 0
  Begins None = ⊥
  Begins (Some told) = is_told told 0 × is_stage told 0 false stage
