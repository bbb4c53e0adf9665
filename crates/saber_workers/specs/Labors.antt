-- What making a piece and absorbing it ask and do.
use Rattle.std.specs.Prelude.{◌≡◌, ◌^◌, ◌≤◌, ◌<◌, ℕ, Bool, true, false, ◌+◌, Option, IfSome}
use Rattle.saber_core.specs.Works.{IsPieceOrMark}
use Rattle.saber_ring.specs.Shows.{first_of_task}

module _ {T R D : Type 0} (upto : T → ℕ → T) (first : T → ℕ → ℕ) (is_rows : T → ℕ → R → Type 0) (suits : T → Type 0) (has_blocks : T → ℕ → ℕ → D → Type 0) where
  -- the draft is of some task, and the block is the next of those before the task's own
  abbrev pub CanLookBack : D → R → Type 0
  CanLookBack draft block =
      (told : T) × (t : ℕ) × (u : ℕ) × suits (upto told 0) × (first_of_task upto first told t ≤ u) × (u + 1 ≤ t)
      × has_blocks told t u draft × is_rows (upto told (u + 1)) u block

  -- the draft of each such task then has that block too
  abbrev pub LooksBack : D → R → Bool → D → Type 0
  LooksBack old block looked_back new =
      (told : T) (t u : ℕ) → suits (upto told 0) → first_of_task upto first told t ≤ u → u + 1 ≤ t
      → has_blocks told t u old → is_rows (upto told (u + 1)) u block → looked_back ≡ true → has_blocks told t (u + 1) new

  -- the draft of each task of which the block is the own has that one
  abbrev pub Begins : R → Option D → Type 0
  Begins own begun = (told : T) (t : ℕ) → suits (upto told 0) → is_rows told t own → IfSome begun (has_blocks told t (first_of_task upto first told t))

module _ {T R : Type 0} (upto : T → ℕ → T) (is_rows : T → ℕ → R → Type 0) (suits : T → Type 0) where
  -- the block is some task's own
  abbrev pub IsOwn : R → Type 0
  IsOwn own = (told : T) × (t : ℕ) × suits (upto told 0) × is_rows told t own

module _ {T D : Type 0} (upto : T → ℕ → T) (suits : T → Type 0) (has_blocks : T → ℕ → ℕ → D → Type 0) where
  -- the draft has all blocks of some task
  abbrev pub CanFinish : D → Type 0
  CanFinish draft = (told : T) × (t : ℕ) × suits (upto told 0) × has_blocks told t t draft

  -- it makes the piece of each task of which it has all blocks
  abbrev pub Finishes : {P : Type 0} → (T → ℕ → P → Type 0) → D → Option P → Type 0
  Finishes is_piece draft made = (told : T) (t : ℕ) → suits (upto told 0) → has_blocks told t t draft → IfSome made (is_piece told t)

-- one task more is behind the stage, or it is stopped
abbrev pub GoesOn : {T S : Type 0} → (T → ℕ → Bool → S → Type 0) → T → ℕ → S → Bool → Type 0
GoesOn is_stage told k stage true = is_stage told (k + 1) false stage
GoesOn is_stage told k stage false = is_stage told k true stage

module _ {T S P : Type 0} (upto : T → ℕ → T) (is_piece : T → ℕ → P → Type 0) (is_stage : T → ℕ → Bool → S → Type 0) (suits : T → Type 0) where
  -- the stage has some tasks behind it and runs, and the piece is that of the next
  abbrev pub IsNext : S → Option P → Type 0
  IsNext stage piece = (told : T) × (k : ℕ) × (k < 2 ^ 42) × suits (upto told 0) × is_stage (upto told k) k false stage × IsPieceOrMark is_piece told k piece

  -- so it goes on, for each work and count of tasks of which that is so
  abbrev pub Absorbs : S → Option P → S → Bool → Type 0
  Absorbs old piece new goes =
      (told : T) (k : ℕ) → suits (upto told 0) → is_stage (upto told k) k false old → IsPieceOrMark is_piece told k piece → GoesOn is_stage told k new goes
