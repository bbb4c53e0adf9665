-- What is asked of a seat, and what a turn of work does to it.
use Rattle.std.specs.Prelude.{◌≡◌, ◌≢◌, ◌<◌, ◌≤◌, ℕ, ◌+◌, ◌*◌, ◌%◌, ◌⊎◌, Bool, true, false, if◌then◌else◌, Option, Some, None}
use Rattle.saber_ring.specs.declared.view.View.{View}
use Rattle.saber_ring.specs.declared.view.HeldTurn.{HeldTurn}
use Rattle.saber_ring.specs.declared.view.TurnState.{TurnState}
use Rattle.saber_ring.specs.declared.seat.Seat.{Seat}
use Rattle.saber_ring.specs.declared.ring.Ring.{Ring}
use Rattle.saber_ring.specs.Words.{view, table, table_of}
use Rattle.saber_ring.specs.Shows.{turn_word, free}
use Rattle.saber_ring.specs.Calls.{NotLast, HoldsTurn, StageAt}
use Rattle.saber_ring.specs.Readings.{was_claimed}

-- no turn, and no block out for reading
abbrev pub IsFree : {T : Type 0} → View T → Type 0
IsFree v = (v.turn ≡ None) × (v.block ≡ None)

-- the fixed data are such
abbrev pub OfBase : {T : Type 0} → (T → Type 0) → Option T → Type 0
OfBase P None = ⊥
OfBase P (Some x) = P x

module _ {W R P S T : Type 0} {g : _} (ring : Ring W R P S T) (seat : Seat W R P S T g) where
  -- the seat is of this ring, without the turn, and with no block out
  pub record IsReady : Type 0 where
    pub own : table seat ≡ table_of ring
    pub free : IsFree (view seat)

  -- and it has no job
  abbrev pub IsIdle : Type 0
  IsIdle = IsReady × ((view seat).job ≡ None)

-- the seat has the turn, whose stage has so many tasks behind it, and is stopped or goes on
abbrev pub HasTurn : {T S : Type 0} → (T → ℕ → Bool → S → Type 0) → ℕ → TurnState → S → Option (HeldTurn T) → Type 0
HasTurn is_stage k state stage turn = HoldsTurn k state turn × StageAt is_stage k state stage turn

-- The seat took some steps more, or none. What the first seat knows, and the fixed data, stay; what it saw behind the stage stays behind
-- it, and a stop that it saw stays seen.
pub record WorksOn {T : Type 0} (v w : View T) : Type 0 where
  pub lead : w.lead ≡ v.lead
  pub base : w.base ≡ v.base
  pub steps : v.saw.number ≤ w.saw.number
  pub seen : v.seen ≤ w.seen
  pub stays : v.stopped ≡ true → w.stopped ≡ true

-- what it knows of tasks, what it did, and what it saw of a stop stay
abbrev pub SameTasks : {T : Type 0} → View T → View T → Type 0
SameTasks v w = (w.job ≡ v.job) × (w.own ≡ v.own) × (w.stopped ≡ v.stopped)

-- its job and block, what it saw of a stop, and its last step that was refused stay
abbrev pub SameWork : {T : Type 0} → View T → View T → Type 0
SameWork v w = (w.job ≡ v.job) × (w.block ≡ v.block) × (w.stopped ≡ v.stopped) × (w.missed ≡ v.missed)

-- the next task to ask for, where this word was seen in place of the ready one
abbrev pub next_cursor : ℕ → ℕ → ℕ
next_cursor t word = if was_claimed t word then t + 1 else t

module _ {T : Type 0} (size : ℕ) (v w : View T) where
  -- the claim of task t was refused by the seat's next step, which is the last that was refused
  abbrev pub IsRefused : ℕ → Type 0
  IsRefused t = (w.missed.place ≡ t % size + 1) × (w.missed.word ≢ 8 * t + 2) × (w.missed.number ≡ v.saw.number + 1)

  -- the read of a block was refused by a step since, which is the last that was refused: another seat reads it; else none was refused
  abbrev pub IsHeldUp : Option ℕ → Type 0
  IsHeldUp None = w.missed ≡ v.missed
  IsHeldUp (Some u) = (w.missed.place ≡ u % size + 1 + size) × (w.missed.word ≡ 4 * u + 3) × (v.saw.number < w.missed.number)

  -- it works on a job that it had: none is claimed, and the cursor c stays
  abbrev pub HasNoNew : ℕ → ℕ → Bool → Option ℕ → Type 0
  HasNoNew c c' claimed waits = (claimed ≡ false) × (c' ≡ c) × IsHeldUp waits

  -- it works on the task of the cursor, which goes on by one
  abbrev pub HasNext : ℕ → ℕ → Option ℕ → Type 0
  HasNext c c' waits = (c' ≡ c + 1) × IsHeldUp waits

  -- it works on nothing: the cursor's claim was refused, and the cursor goes on by what was seen
  abbrev pub HasNothing : ℕ → ℕ → Option ℕ → Type 0
  HasNothing c c' waits = IsRefused c × (c' ≡ next_cursor c w.missed.word) × (waits ≡ None)

-- the seat's last step found the task after k not done
abbrev pub FoundNone : {T : Type 0} → ℕ → ℕ → View T → Type 0
FoundNone size k v = (v.saw.place ≡ k % size + 1) × (v.saw.word ≢ 8 * k + 4) × (v.saw.word ≢ 8 * k + 6)

module _ {T : Type 0} (size : ℕ) (v : View T) where
  -- it stored a stage that runs, after the step before found the next task not done
  abbrev pub StoresRunning : Type 0
  StoresRunning = (k : ℕ) × (v.saw.word ≡ turn_word k (free false)) × (v.before.place ≡ k % size + 1) × (v.before.word ≢ 8 * k + 4) × (v.before.word ≢ 8 * k + 6)

  -- another seat had the turn: the word found is odd, or isn't the even one that the step before found there
  abbrev pub SawHeld : Type 0
  SawHeld = NotLast v.lead × ((v.saw.word % 2 ≢ 0) ⊎ ((v.before.place ≡ 0) × (v.before.word % 2 ≡ 0) × (v.saw.word ≢ v.before.word)))

  -- the last step was on the word of the turn: it stored a stopped stage, or one that runs; or another seat had the turn
  abbrev pub EndsTurn : Bool → Type 0
  EndsTurn true = (v.saw.place ≡ 0) × ((k : ℕ) × (v.saw.word ≡ turn_word k (free true)))
  EndsTurn false = (v.saw.place ≡ 0) × (SawHeld ⊎ StoresRunning)
