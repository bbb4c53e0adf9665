-- What a seat has in hand from one turn of work to the next.
use Rattle.std.specs.Prelude.{◌≡◌, ◌^◌, ◌≤◌, ℕ, ◌+◌, Bool, true, false, Option, Some, None}
use Rattle.saber_ring.specs.declared.view.HeldTask.{HeldTask}
use Rattle.saber_ring.specs.Shows.{first_of_task}
use Rattle.saber_workers.specs.declared.hand.InHand.{InHand}
use Rattle.saber_workers.specs.declared.hand.Hand.{Hand}
use Rattle.saber_workers.specs.declared.hand.InHand.TheVariants.{Empty, Claimed, Begun}

module _ {T : Type 0} (upto : T → ℕ → T) (first : T → ℕ → ℕ) (suits : T → Type 0) where
  -- the seat's job is this task; its data end with the task, and suit
  abbrev pub HoldsJob : ℕ → Option (HeldTask T) → Type 0
  HoldsJob t None = ⊥
  HoldsJob t (Some x) = (x.task ≡ t) × suits (upto x.told 0) × (upto x.told (t + 1) ≡ x.told) × (first_of_task upto first x.told t ≤ t)

module _ {T D : Type 0} (upto : T → ℕ → T) (first : T → ℕ → ℕ) (has_blocks : T → ℕ → ℕ → D → Type 0) where
  -- the draft of that task has its own block, and those before it up to block u
  abbrev pub HasSoFar : ℕ → ℕ → D → Option (HeldTask T) → Type 0
  HasSoFar t u draft None = ⊥
  HasSoFar t u draft (Some x) = (first_of_task upto first x.told t ≤ u) × (u ≤ t) × has_blocks x.told t u draft

module _ {T D : Type 0} (upto : T → ℕ → T) (first : T → ℕ → ℕ) (suits : T → Type 0) (has_blocks : T → ℕ → ℕ → D → Type 0) where
  -- nothing, or the seat's job, with its draft once the task's own block was read
  abbrev pub IsInHand : {W R P S : Type 0} {g : _} → InHand W D R P S T g → Option (HeldTask T) → Type 0
  IsInHand Empty job = job ≡ None
  IsInHand (Claimed j) job = HoldsJob upto first suits j.task job
  IsInHand (Begun j next draft) job = HoldsJob upto first suits j.task job × HasSoFar upto first has_blocks j.task next draft job

  -- the hand has the seat's job, and the next task to ask for is none that can't be
  pub record IsHandOf {W R P S : Type 0} {g : _} (job : Option (HeldTask T)) (hand : Hand W D R P S T g) : Type 0 where
    pub held : IsInHand hand.held job
    pub below : hand.cursor ≤ 2 ^ 42

-- nothing is in hand
abbrev pub is_empty : {W D R P S T : Type 0} {g : _} → InHand W D R P S T g → Bool
is_empty Empty = true
is_empty (Claimed j) = false
is_empty (Begun j next draft) = false
