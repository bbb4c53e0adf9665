-- What each call asks of the seat's view, and what it tells: v is the view before, v' the view after.
use Rattle.std.specs.Prelude.{◌^◌, ◌≡◌, ◌≢◌, ℕ, Bool, true, false, ◌+◌, ◌-◌, ◌*◌, ◌%◌, ◌<◌, ◌≤◌, ◌⊎◌, slice_index, length, Option, Some, None}
use Rattle.saber_core.specs.Works.{IsPieceOrMark}
use Rattle.saber_ring.specs.declared.view.TurnState.{TurnState}
use Rattle.saber_ring.specs.declared.view.TurnState.TheVariants.{Open, TookPiece, TookMark}
use Rattle.saber_ring.specs.declared.view.View.{View}
use Rattle.saber_ring.specs.declared.view.HeldTask.{HeldTask}
use Rattle.saber_ring.specs.declared.view.Lead.{Lead}
use Rattle.saber_ring.specs.declared.view.HeldTurn.{HeldTurn}
use Rattle.saber_ring.specs.declared.answers.Claim.{Claim}
use Rattle.saber_ring.specs.declared.answers.Claim.TheVariants as claim
use Rattle.saber_ring.specs.declared.answers.Fill.{Fill}
use Rattle.saber_ring.specs.declared.answers.Fill.TheVariants as fill
use Rattle.saber_ring.specs.declared.answers.Place.TheVariants as place
use Rattle.saber_ring.specs.declared.answers.Read.{Read}
use Rattle.saber_ring.specs.declared.answers.Read.TheVariants as read
use Rattle.saber_ring.specs.declared.frees.Frees.{Frees}
use Rattle.saber_ring.specs.declared.answers.Win.{Win}
use Rattle.saber_ring.specs.declared.answers.Win.TheVariants as win
use Rattle.saber_ring.specs.declared.answers.Take.{Take}
use Rattle.saber_ring.specs.declared.answers.Take.TheVariants as take
use Rattle.saber_ring.specs.declared.view.Entry.TheVariants as entry
use Rattle.saber_ring.specs.Shows.{turn_word, free, times, first_of_task}
use Rattle.saber_ring.specs.Plays.{looked, looked_turn, turn_behind, state_shown, is_stopped, led, begun, stored, more_filled, reading, without_block, word_before, with_job, missing, Refuses, IsNew, IsDeposited, without_job, with_turn, with_take, went_on, without_turn, WinsLeft}

module _ {W R P S T : Type 0} (upto : T → ℕ → T) (first : T → ℕ → ℕ) (size t : ℕ) (v v' : View T) where
  -- the seat has the task, whose data are those of the tasks up to it, or the word of its one step wasn't the ready one
  abbrev pub Claims : {g : _} → Claim W R P S T g → Type 0
  Claims (claim.Got job) =
      (told : T) × (job.task ≡ t) × (t < 2 ^ 42) × (v' ≡ with_job v (t % size + 1) (8 * t + 2) (record { task = t; told = told }))
      × (v.base ≡ Some (upto told 0)) × IsNew t v × (upto told (t + 1) ≡ told) × (first_of_task upto first told t ≤ t)
  Claims (claim.Not word) = (word ≢ 8 * t + 2) × (v' ≡ missing v (t % size + 1) word) × (8 * t + 2 < word → t < 2 ^ 42) × Refuses t v

module _ {T R : Type 0} (is_told : T → ℕ → Type 0) (filled : T → R → T) (is_rows : T → ℕ → R → Type 0) (t : ℕ) (rows : R) where
  -- these are the rows of the next task
  abbrev pub FillsNext : Option (Lead T) → Type 0
  FillsNext None = ⊥
  FillsNext (Some l) = (l.filled ≡ t) × is_rows (filled l.told rows) t rows × is_told (filled l.told rows) (t + 1)

module _ {T : Type 0} (upto : T → ℕ → T) (first : T → ℕ → ℕ) (t : ℕ) (frees : Frees) (seen : ℕ) where
  -- the list tells the first block that is needed by each task from those that the seat saw assembled to the next
  abbrev pub Covers : Option (Lead T) → Type 0
  Covers None = ⊥
  Covers (Some l) =
      (frees.base ≤ seen) × (t < frees.base + length frees.list.items)
      × ((k : ℕ) → frees.base ≤ k → k ≤ t → slice_index frees.list.items (k - frees.base) ≡ first_of_task upto first l.told k)

-- the seat after it saw the cell idle, and then the word of the turn
abbrev pub after_looks : {T : Type 0} → ℕ → ℕ → ℕ → View T → View T
after_looks size t word v = looked_turn (looked v (t % size + 1) (8 * t)) word

-- and then had the block, and put the rows in
abbrev pub after_store : {T : Type 0} → ℕ → ℕ → ℕ → Lead T → T → View T → View T
after_store size t word l told v =
    led (led (after_looks size t word v) (t % size + 1 + size) (word_before size t) (begun l)) (t % size + 1 + size) (4 * t + 2) (stored l told)

-- and then made the task ready
abbrev pub after_fill : {T : Type 0} → ℕ → ℕ → ℕ → Lead T → T → View T → View T
after_fill size t word l told v = led (after_store size t word l told v) (t % size + 1) (8 * t) (more_filled l told)

module _ {T : Type 0} (upto : T → ℕ → T) (first : T → ℕ → ℕ) (size t word : ℕ) (l : Lead T) where
  -- the tasks that the word shows behind the stage leave none needed that lies at the place of block t, or they may
  abbrev pub HasRoom : Type 0
  HasRoom = t < first_of_task upto first l.told (turn_behind word) + size

  abbrev pub HasNoRoom : Type 0
  HasNoRoom = first_of_task upto first l.told (turn_behind word) + size ≤ t

  -- they are no more than were filled, and the first block that they leave needed is none of a later task
  abbrev pub LeavesNeed : Type 0
  LeavesNeed = (turn_behind word ≤ t) × (first_of_task upto first l.told (turn_behind word) ≤ turn_behind word)

module _ {W R P S T : Type 0} (upto : T → ℕ → T) (first : T → ℕ → ℕ) (filled : T → R → T) (size t : ℕ) (rows : R) (v v' : View T) where
  -- the task is filled, or the rows are back: the cell that was loaded isn't idle for it, or its block is still needed by a
  -- task that the loaded word of the turn doesn't show as assembled
  abbrev pub Fills : Fill W R P S T → Type 0
  Fills fill.Put =
      (l : Lead T) × (word : ℕ) × (v.lead ≡ Some l) × (v.seen ≤ turn_behind word) × HasRoom upto first size t word l
      × (v' ≡ after_fill size t word l (filled l.told rows) v) × LeavesNeed upto first size t word l
  Fills (fill.Full place.Cell word back) = (back ≡ rows) × (word ≢ 8 * t) × (v' ≡ looked v (t % size + 1) word)
  Fills (fill.Full place.Turn word back) =
      (l : Lead T) × (v.lead ≡ Some l) × (back ≡ rows) × (v.seen ≤ turn_behind word) × HasNoRoom upto first size t word l
      × (v' ≡ after_looks size t word v) × LeavesNeed upto first size t word l

module _ {T : Type 0} (upto : T → ℕ → T) (first : T → ℕ → ℕ) (t u : ℕ) where
  -- the seat has this task, which needs this block
  abbrev pub NeedsBlock : Option (HeldTask T) → Type 0
  NeedsBlock None = ⊥
  NeedsBlock (Some x) = (x.task ≡ t) × (first_of_task upto first x.told t ≤ u) × (u ≤ t)

-- the seat has this task
abbrev pub HasJobOf : {T : Type 0} → ℕ → Option (HeldTask T) → Type 0
HasJobOf t None = ⊥
HasJobOf t (Some x) = x.task ≡ t

module _ {T R : Type 0} (upto : T → ℕ → T) (is_rows : T → ℕ → R → Type 0) where
  -- these are the rows of the block, as the data of the seat's job tell them
  abbrev pub AreRowsOf : R → Option (HeldTask T) → ℕ → Type 0
  AreRowsOf rows None u = ⊥
  AreRowsOf rows (Some x) u = is_rows (upto x.told (u + 1)) u rows

-- some other seat is out
abbrev pub NotLast : {T : Type 0} → Option (Lead T) → Type 0
NotLast lead = (l : Lead _) → lead ≡ Some l → l.out ≢ 0

module _ {W R P S T : Type 0} (upto : T → ℕ → T) (is_rows : T → ℕ → R → Type 0) (size u : ℕ) (v v' : View T) where
  -- the seat has the block and its rows by a load and an exchange, or the word of the last step shows it with another reader
  abbrev pub Reads : Read W R P S T → Type 0
  Reads (read.Got rows) =
      AreRowsOf upto is_rows rows v.job u × (v' ≡ reading (looked v (u % size + 1 + size) (4 * u + 2)) (u % size + 1 + size) (4 * u + 2) u)
  Reads (read.Held word) =
      (word ≡ 4 * u + 3) × NotLast v.lead
      × ((v' ≡ missing v (u % size + 1 + size) word) ⊎ (v' ≡ missing (looked v (u % size + 1 + size) (4 * u + 2)) (u % size + 1 + size) word))

module _ {T R : Type 0} (upto : T → ℕ → T) (is_rows : T → ℕ → R → Type 0) (rows : R) (job : Option (HeldTask T)) where
  -- the seat has a block out, and these are its rows
  abbrev pub HasRowsOut : Option ℕ → Type 0
  HasRowsOut None = ⊥
  HasRowsOut (Some u) = AreRowsOf upto is_rows rows job u

module _ {T : Type 0} (size : ℕ) (v v' : View T) where
  -- the block is at home again by one step
  abbrev pub PutsBack : Option ℕ → Type 0
  PutsBack None = ⊥
  PutsBack (Some u) = v' ≡ without_block v (u % size + 1 + size) (4 * u + 2)

module _ {T P : Type 0} (is_piece : T → ℕ → P → Type 0) (t : ℕ) where
  -- the seat has this task, and the piece is the task's, or there is the mark
  abbrev pub MayDeposit : Option P → Option (HeldTask T) → Type 0
  MayDeposit piece None = ⊥
  MayDeposit piece (Some x) = (x.task ≡ t) × IsPieceOrMark is_piece x.told t piece

module _ {T P : Type 0} (size t : ℕ) (v v' : View T) where
  -- the job is handed in by one step
  abbrev pub Deposits : Option P → Type 0
  Deposits (Some p) = v' ≡ without_job v (t % size + 1) (8 * t + 4) t false
  Deposits None = v' ≡ without_job v (t % size + 1) (8 * t + 6) t true

module _ {W R P S T : Type 0} (upto : T → ℕ → T) (is_stage : T → ℕ → Bool → S → Type 0) (v v' : View T) where
  -- the turn is won from the even word loaded, or the word of the last step is odd or isn't the even one loaded before it
  abbrev pub Wins : {g : _} → Win W R P S T g → Type 0
  Wins (win.Got turn) =
      (word : ℕ) × (told : T) × is_stage told turn.behind (is_stopped turn.state) turn.stage × (v.seen ≤ turn.behind)
      × (turn.behind ≡ turn_behind word) × (turn.state ≡ state_shown word)
      × (v' ≡ with_turn (looked_turn v word) word (record { behind = turn.behind; state = turn.state; told = told }))
      × WinsLeft v turn.behind (is_stopped turn.state) × (v.stopped ≡ true → is_stopped turn.state ≡ true) × (v.base ≡ Some (upto told 0))
  Wins (win.Held word) =
      NotLast v.lead × (v.seen ≤ turn_behind word)
      × (((v' ≡ looked_turn v word) × (word % 2 ≢ 0)) ⊎ ((even : ℕ) × (even % 2 ≡ 0) × (word ≢ even) × (v' ≡ looked_turn (looked_turn v even) word)))

-- the seat has the turn, with so many tasks behind it
abbrev pub HoldsTurn : {T : Type 0} → ℕ → TurnState → Option (HeldTurn T) → Type 0
HoldsTurn k state None = ⊥
HoldsTurn k state (Some h) = (h.behind ≡ k) × (h.state ≡ state)

-- the data go on from those that the turn had
abbrev pub GoesOn : {T : Type 0} → (T → ℕ → T) → ℕ → T → Option (HeldTurn T) → Type 0
GoesOn upto k told None = ⊥
GoesOn upto k told (Some h) = h.told ≡ upto told k

module _ {P T : Type 0} (upto : T → ℕ → T) (is_piece : T → ℕ → P → Type 0) (size k : ℕ) (v v' : View T) where
  -- a load that found the task done, and the exchange that took what was handed in
  abbrev pub Got : Option P → Type 0
  Got None =
      (told : T) × GoesOn upto k told v.turn × (v.base ≡ Some (upto told 0))
      × (v' ≡ with_take (looked v (k % size + 1) (8 * k + 6)) (k % size + 1) (8 * k + 6) (record { behind = k; state = TookMark; told = told }))
  Got (Some p) =
      (told : T) × GoesOn upto k told v.turn × (v.base ≡ Some (upto told 0)) × is_piece told k p
      × (v' ≡ with_take (looked v (k % size + 1) (8 * k + 4)) (k % size + 1) (8 * k + 4) (record { behind = k; state = TookPiece; told = told }))

abbrev pub is_mark : {P : Type 0} → Option P → Bool
is_mark None = true
is_mark (Some p) = false

-- the last seat without a job finds no piece only where the task was not claimed
abbrev pub NoneClaimed : {T : Type 0} → ℕ → TurnState → View T → Type 0
NoneClaimed k state v = (l : Lead _) → v.lead ≡ Some l → l.out ≡ 0 → v.job ≡ None → state ≡ Open → times (entry.Claim k) v.own ≡ 0

-- the last seat finds no piece only where it deposited none
abbrev pub NoneDeposited : {T : Type 0} → ℕ → TurnState → View T → Type 0
NoneDeposited k state v = (l : Lead _) (m : Bool) → v.lead ≡ Some l → l.out ≡ 0 → state ≡ Open → times (entry.Deposit k m) v.own ≡ 0

module _ {W R P S T : Type 0} (upto : T → ℕ → T) (is_piece : T → ℕ → P → Type 0) (size k : ℕ) (state : TurnState) (v v' : View T) where
  -- the task after those behind the stage is taken, or the word of the one step is neither done nor marked
  abbrev pub Takes : Take W R P S T → Type 0
  Takes (take.Got piece) = (k < 2 ^ 42) × Got upto is_piece size k v v' piece × IsDeposited k (is_mark piece) v
  Takes (take.NotYet word) = (v' ≡ looked v (k % size + 1) word) × (word ≢ 8 * k + 4) × (word ≢ 8 * k + 6) × NoneClaimed k state v × NoneDeposited k state v

-- the answer is Got
abbrev pub IsGot : {W R P S T : Type 0} → Take W R P S T → Type 0
IsGot (take.Got piece) = Unit {0}
IsGot (take.NotYet word) = ⊥

module _ {T S : Type 0} (is_stage : T → ℕ → Bool → S → Type 0) (k : ℕ) where
  -- the stage has k tasks behind it, and runs
  abbrev pub StageAfter : S → Option (HeldTurn T) → Type 0
  StageAfter stage None = ⊥
  StageAfter stage (Some h) = is_stage h.told k false stage

  -- the same, or it is stopped there
  abbrev pub StageAt : TurnState → S → Option (HeldTurn T) → Type 0
  StageAt state stage None = ⊥
  StageAt state stage (Some h) = is_stage h.told k (is_stopped state) stage

module _ {T : Type 0} (size k : ℕ) (v v' : View T) where
  -- the task is given by one step, which leaves the cell idle for the task one round later
  abbrev pub Gives : Option (HeldTurn T) → Type 0
  Gives None = ⊥
  Gives (Some h) = (k < 2 ^ 42) × (v' ≡ went_on v (k % size + 1) (8 * (k + size)) h)

module _ {T : Type 0} (size k : ℕ) (v v' : View T) where
  -- the turn is given up; before that, with a piece in hand, the slot of its cell goes back by a load
  abbrev pub Releases : TurnState → Type 0
  Releases TookPiece = (h : HeldTurn T) × (v.turn ≡ Some h) × (v' ≡ without_turn (looked v (k % size + 1) (8 * k + 5)) (turn_word k (free true)) h)
  Releases state = (h : HeldTurn T) × (v.turn ≡ Some h) × (v' ≡ without_turn v (turn_word k (free (is_stopped state))) h)
