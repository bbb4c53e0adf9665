-- The core that a state of the ring shows. The seats of the core are the places among the views.
use Rattle.std.specs.Prelude.{ℕ, Bool, true, false, ◌+◌, ◌-◌, List, [], ◌∷◌, Option, Some, None}
use Rattle.std.proofs.Common.{zero, suc}
use Rattle.saber_core.specs.declared.events.TaskPhase.{TaskPhase}
use Rattle.saber_core.specs.declared.events.TaskPhase.TheVariants.{Ready, Held, Done, Taken}
use Rattle.saber_core.specs.declared.machine.Holder.{Holder}
use Rattle.saber_core.specs.Machine.{State}
use Rattle.saber_ring.specs.declared.view.TurnState.{TurnState}
use Rattle.saber_ring.specs.declared.view.TurnState.TheVariants.{TookPiece, TookMark, Leaving}
use Rattle.saber_ring.specs.Shows.{RingPhase, held, done, taken, RingTurn, free, won_by, RingState}

-- the phase of a filled task that isn't given
abbrev pub core_phase : RingPhase → TaskPhase
core_phase (held j) = Held j
core_phase (done m) = Done m
core_phase (taken m) = Taken m
core_phase _ = Ready

-- the phases of n tasks, from task g on
abbrev pub phases_from : (ℕ → RingPhase) → ℕ → ℕ → List TaskPhase
phases_from phase g zero = []
phases_from phase g (suc n) = core_phase (phase g) ∷ phases_from phase (g + 1) n

-- the holder has taken a piece or a mark and not given it
abbrev pub is_taking : TurnState → Bool
is_taking TookPiece = true
is_taking TookMark = true
is_taking Leaving = true
is_taking _ = false

-- who holds the turn
abbrev pub holder_of : ℕ → RingTurn → Option Holder
holder_of g (free s) = None
holder_of g (won_by j p) = Some (record { seat = j; given = g; taken = is_taking p })

-- the core of a ring with so many cells and seats
abbrev pub core_of : {T : Type 0} → ℕ → ℕ → RingState T → State
core_of size seats b = record {
  size = size;
  seats = seats;
  assembled = b.assembled;
  filled = b.filled;
  turn = holder_of b.given b.turn;
  phases = phases_from b.phase b.given (b.filled - b.given);
}
