-- What giving the turn up asks, and what it does, on plain seats.
use Rattle.std.specs.Prelude.{◌≡◌, ℕ, Bool, Option, Some, None}
use Rattle.atomic_table.specs.Table.{Me, rest}
use Rattle.saber_ring.specs.declared.view.SlotValue.{SlotValue}
use Rattle.saber_ring.specs.declared.view.View.{View}
use Rattle.saber_ring.specs.declared.view.TurnState.{TurnState}
use Rattle.saber_ring.specs.declared.view.HeldTurn.{HeldTurn}
use Rattle.saber_ring.specs.Shows.{free, turn_word}
use Rattle.saber_ring.specs.Plays.{is_stopped, without_turn}

-- the seat has the turn, and the stage stands behind k tasks
module _ {T S : Type 0} (is_stage : T → ℕ → Bool → S → Type 0) (k : ℕ) (state : TurnState) (stage : S) where
  abbrev pub SetsDown : Option (HeldTurn T) → Type 0
  SetsDown None = ⊥
  SetsDown (Some h) = (h.behind ≡ k) × (h.state ≡ state) × is_stage h.told k (is_stopped state) stage

module _ {T R P S : Type 0} (k : ℕ) (state : TurnState) (m m' : Me (SlotValue R P S) (View T)) where
  -- the turn is given up by one step, with the word of so many tasks, and the stage's slot with it
  abbrev pub IsSetDown : Type 0
  IsSetDown =
      (h : HeldTurn T) × (m.0.turn ≡ Some h) × (m' ≡ (without_turn m.0 (turn_word k (free (is_stopped state))) h, rest m.1))
