-- The slots that a seat has out, and how seats part and meet.
use Rattle.std.specs.Prelude.{ℕ, Bool, false, true, max, ◌||◌, ◌+◌, ◌-◌, ◌/◌, ◌%◌, nat_lt, List, [], ◌∷◌, ◌++◌, Option, Some, None}
use Rattle.saber_ring.specs.declared.view.SlotValue.{SlotValue}
use Rattle.saber_ring.specs.declared.view.SlotValue.TheVariants.{Empty}
use Rattle.saber_ring.specs.declared.view.TurnState.{TurnState}
use Rattle.saber_ring.specs.declared.view.TurnState.TheVariants.{Open, TookPiece, TookMark, WonStopped, Leaving}
use Rattle.saber_ring.specs.declared.view.FillState.{FillState}
use Rattle.saber_ring.specs.declared.view.FillState.TheVariants.{Waiting}
use Rattle.saber_ring.specs.declared.view.View.{View}
use Rattle.saber_ring.specs.declared.view.HeldTask.{HeldTask}
use Rattle.saber_ring.specs.declared.view.HeldTurn.{HeldTurn}
use Rattle.saber_ring.specs.declared.view.Lead.{Lead}
use Rattle.saber_ring.specs.Shows.{new_view}

-- the number of cells of a ring with n slots: one for the stage, and two for each
abbrev pub cells_of : ℕ → ℕ
cells_of n = n / 2

module _ {R P S : Type 0} where
  -- of a ring of n cells: the cell's slot of a job
  abbrev pub job_slots : {T : Type 0} → ℕ → Option (HeldTask T) → List (ℕ × SlotValue R P S)
  job_slots n None = []
  job_slots n (Some x) = (x.task % n + 1, Empty) ∷ []

  -- the slot of a block that is read
  abbrev pub block_slots : ℕ → Option ℕ → List (ℕ × SlotValue R P S) → List (ℕ × SlotValue R P S)
  block_slots n None cs = cs
  block_slots n (Some u) cs = (u % n + 1 + n, Empty) ∷ cs

  -- the slot of the stage, and of the cell i while its piece is in hand
  abbrev pub state_slots : ℕ → TurnState → List (ℕ × SlotValue R P S) → List (ℕ × SlotValue R P S)
  state_slots i Open cs = (0, Empty) ∷ cs
  state_slots i TookPiece cs = (i, Empty) ∷ (0, Empty) ∷ cs
  state_slots i TookMark cs = (0, Empty) ∷ cs
  state_slots i WonStopped cs = (0, Empty) ∷ cs
  state_slots i Leaving cs = (0, Empty) ∷ cs

  abbrev pub turn_slots : {T : Type 0} → ℕ → Option (HeldTurn T) → List (ℕ × SlotValue R P S) → List (ℕ × SlotValue R P S)
  turn_slots n None cs = cs
  turn_slots n (Some h) cs = state_slots (h.behind % n + 1) h.state cs

  -- what a seat has out beside the turn
  abbrev pub task_slots : {T : Type 0} → ℕ → View T → List (ℕ × SlotValue R P S)
  task_slots n v = block_slots n v.block (job_slots n v.job)

  -- each slot is empty: the piece isn't made yet, and the rows and the stage are in hand
  abbrev pub out_of : {T : Type 0} → ℕ → View T → List (ℕ × SlotValue R P S)
  out_of n v = turn_slots n v.turn (task_slots n v)

module _ {T : Type 0} where
  -- a block is with the first seat, or at home and its task not yet filled
  abbrev pub is_begun : FillState T → Bool
  is_begun Waiting = false
  is_begun _ = true

  -- the first seat is within a fill
  abbrev pub is_filling : Option (Lead T) → Bool
  is_filling None = false
  is_filling (Some l) = is_begun l.fill

  abbrev pub more_out : Option (Lead T) → Option (Lead T)
  more_out None = None
  more_out (Some l) = Some (record l { out = l.out + 1 })

  abbrev pub less_out : Option (Lead T) → Option (Lead T)
  less_out None = None
  less_out (Some l) = Some (record l { out = l.out - 1 })

  -- the first seat after a split
  abbrev pub parting : View T → View T
  parting v = record v { lead = more_out v.lead }

  -- a new seat has the fixed data, and has done nothing
  abbrev pub newcomer : Option T → View T
  newcomer base = new_view base None

  -- what another seat did goes over, and what it saw in the word of the turn
  abbrev pub joined : View T → View T → View T
  joined v w = record v { lead = less_out v.lead; seen = max v.seen w.seen; stopped = v.stopped || w.stopped; own = v.own ++ w.own }

-- a seat with a block out has a job, whose task is no earlier than the block
abbrev pub is_lent : {T : Type 0} → Option ℕ → Option (HeldTask T) → Bool
is_lent None job = true
is_lent (Some u) None = false
is_lent (Some u) (Some x) = nat_lt u (x.task + 1)
