-- The rule of the ring: what its words, its slots and the views of its seats are at every moment. It is this
-- project's own, after the slots of SABER 2016's result stage and its circular input buffers. It has four parts: shape (words
-- of the turn and the cells, and views), home (pieces and the stage in slots), blocks (the words and slots of blocks, and who
-- has them) and count (what the seats did). Word 0 is that of the turn, the cell of task t is word t % size + 1, and block t,
-- the rows of task t, has word t % size + 1 + size.
use Rattle.std.specs.Prelude.{◌^◌, ◌≡◌, ◌≢◌, ℕ, Bool, true, false, ◌+◌, ◌-◌, ◌*◌, ◌%◌, ◌<◌, ◌≤◌, ◌==◌, ◌&&◌, if◌then◌else◌, List, [], ◌∷◌, length, slice_index, Option, Some, None}
use mathlib.Core.Option.{some}
use mathlib.Core.Option as maybe
use lib.ListN.{get_elem?}
use Rattle.atomic_table.specs.Table.{State}
use Rattle.saber_ring.specs.declared.view.SlotValue.{SlotValue}
use Rattle.saber_ring.specs.declared.view.SlotValue.TheVariants.{Empty, Rows, Piece, Stage}
use Rattle.saber_ring.specs.declared.view.TurnState.{TurnState}
use Rattle.saber_ring.specs.declared.view.TurnState.TheVariants.{Open, TookPiece, TookMark, WonStopped, Leaving}
use Rattle.saber_ring.specs.declared.view.FillState.{FillState}
use Rattle.saber_ring.specs.declared.view.FillState.TheVariants.{Waiting, Begun, Stored}
use Rattle.saber_ring.specs.declared.view.Entry.{Entry}
use Rattle.saber_ring.specs.declared.view.Entry.TheVariants.{Claim, Deposit, Take, Give}
use Rattle.saber_ring.specs.declared.view.View.{View}
use Rattle.saber_ring.specs.declared.view.Lead.{Lead}
use Rattle.saber_ring.specs.declared.view.HeldTask.{HeldTask}
use Rattle.saber_ring.specs.declared.view.HeldTurn.{HeldTurn}
use Rattle.saber_ring.specs.declared.view.OwnStep.{OwnStep}

-- of a seat that has made no step
abbrev pub no_step : OwnStep
no_step = record { place = 0; word = 0; number = 0 }

-- where a task is: not yet filled, filled and unclaimed, with the seat at a place among the views, handed in (true: the
-- mark), taken by the turn (true: the mark), given back
pub data RingPhase : Type 0 where
  idle : RingPhase
  ready : RingPhase
  held : ℕ → RingPhase
  done : Bool → RingPhase
  taken : Bool → RingPhase
  past : RingPhase

-- where a block is: never filled, with the first seat that puts its rows in, at home, with the seat at a place among the views
-- that reads it
pub data RingBlock : Type 0 where
  blank : RingBlock
  coming : RingBlock
  kept : RingBlock
  read_by : ℕ → RingBlock

-- the numbers f of the elements, added up
abbrev pub total : {A : Type 0} → (A → ℕ) → List A → ℕ
total f [] = 0
total f (x ∷ xs) = f x + total f xs

-- 1 for a seat with its fixed data, 0 for one that another seat took in
abbrev pub live : {A : Type 0} → Option A → ℕ
live None = 0
live (Some x) = 1

-- the last part of the word of a cell; the number of its task, times eight, is the first
abbrev pub number_of : RingPhase → ℕ
number_of idle = 0
number_of ready = 2
number_of (held j) = 3
number_of (done false) = 4
number_of (done true) = 6
number_of (taken false) = 5
number_of (taken true) = 7
number_of past = 0

-- the last part of the word of a block; the number of the block, times four, is the first
abbrev pub block_number : RingBlock → ℕ
block_number blank = 0
block_number coming = 1
block_number kept = 2
block_number (read_by j) = 3

-- the turn: free, with a stopped stage at home or not, or held by the seat at a place among the views
pub data RingTurn : Type 0 where
  free : Bool → RingTurn
  won_by : ℕ → TurnState → RingTurn

-- the word of the turn, with k tasks assembled when it was last free
abbrev pub turn_word : ℕ → RingTurn → ℕ
turn_word k (free false) = 2 * k
turn_word k (free true) = 2 * k + 2 ^ 62
turn_word k (won_by j WonStopped) = 2 * k + 1 + 2 ^ 62
turn_word k (won_by j _) = 2 * k + 1

-- who has a taken task, or had it: the holder, or a stopped stage
abbrev pub TakenBy : Bool → RingTurn → Type 0
TakenBy m (free s) = s ≡ true
TakenBy m (won_by j Open) = ⊥
TakenBy m (won_by j TookPiece) = m ≡ false
TakenBy m (won_by j TookMark) = m ≡ true
TakenBy m (won_by j Leaving) = m ≡ false
TakenBy m (won_by j WonStopped) = Unit {0}

-- the stage is stopped for good, at home or with the holder of the turn
abbrev pub is_halted : RingTurn → Bool
is_halted (free x) = x
is_halted (won_by j WonStopped) = true
is_halted (won_by j _) = false

-- what the words show, in plain terms. assembled: the tasks behind the stage when the turn was last free; given: the tasks given back;
-- filled: the tasks filled; lead: the place of the first seat; out: the number of other live seats; told: the data of the filled tasks;
-- fill: how far the fill of the next task is; phase, block: where each task and each block is
pub record RingState (T : Type 0) : Type 0 where
  pub assembled : ℕ
  pub given : ℕ
  pub filled : ℕ
  pub turn : RingTurn
  pub lead : ℕ
  pub out : ℕ
  pub told : T
  pub fill : FillState T
  pub phase : ℕ → RingPhase
  pub block : ℕ → RingBlock

module _ {T : Type 0} (room : ℕ) (b : RingState T) (seats : ℕ) (t : ℕ) where
  -- which tasks can be where
  abbrev pub Fits : RingPhase → Type 0
  Fits idle = b.filled ≤ t
  Fits ready = (b.given ≤ t) × (t < b.filled)
  Fits (held j) = (b.given ≤ t) × (t < b.filled) × (j < seats)
  Fits (done m) = (b.given ≤ t) × (t < b.filled)
  Fits (taken m) = (t ≡ b.given) × (t < b.filled) × TakenBy m b.turn
  Fits past = t < b.given

module _ {T : Type 0} (b : RingState T) (seats : ℕ) where
  -- the first task that isn't given is taken
  abbrev pub IsTaken : Type 0
  IsTaken = (m : Bool) × (b.phase b.given ≡ taken m)

  -- what the turn says of the first task that isn't given
  abbrev pub TurnFits : RingTurn → Type 0
  TurnFits (free s) = (b.assembled ≡ b.given) × (s ≡ true → IsTaken)
  TurnFits (won_by j Open) = j < seats
  TurnFits (won_by j TookPiece) = (j < seats) × (b.phase b.given ≡ taken false)
  TurnFits (won_by j TookMark) = (j < seats) × (b.phase b.given ≡ taken true)
  TurnFits (won_by j WonStopped) = (j < seats) × IsTaken
  TurnFits (won_by j Leaving) = (j < seats) × (b.phase b.given ≡ taken false)

-- how many blocks were begun, of d filled tasks
abbrev pub begun_of : {T : Type 0} → FillState T → ℕ → ℕ
begun_of Waiting d = d
begun_of Begun d = d + 1
begun_of (Stored told) d = d + 1

-- the data of the blocks at home, of those of the filled tasks
abbrev pub told_with : {T : Type 0} → FillState T → T → T
told_with Waiting told = told
told_with Begun told = told
told_with (Stored next) told = next

-- the first block that a task needs
abbrev pub first_of_task : {T : Type 0} → (T → ℕ → T) → (T → ℕ → ℕ) → T → ℕ → ℕ
first_of_task upto first told t = first (upto told t) t

-- how many tasks beyond those behind the stage the data of the turn tell of
abbrev pub knows_next : TurnState → ℕ
knows_next Open = 0
knows_next TookPiece = 1
knows_next TookMark = 1
knows_next WonStopped = 1
knows_next Leaving = 1

-- the same of a stage at home, stopped or not
abbrev pub extra : Bool → ℕ
extra false = 0
extra true = 1

-- what a seat saw in the word of the turn: no fewer tasks are behind the stage, and a stopped stage stays so
abbrev pub Sees : {T : Type 0} → RingState T → ℕ → Bool → Type 0
Sees b seen stopped = (seen ≤ b.assembled) × (stopped ≡ true → is_halted b.turn ≡ true)

module _ {T : Type 0} (upto : T → ℕ → T) (b : RingState T) (j : ℕ) where
  -- the job in a seat's view is the task that it holds, and it holds no other
  abbrev pub HasJob : Option (HeldTask T) → Type 0
  HasJob None = (u : ℕ) → b.phase u ≢ held j
  HasJob (Some x) = (b.phase x.task ≡ held j) × (x.told ≡ upto b.told (x.task + 1)) × ((u : ℕ) → b.phase u ≡ held j → u ≡ x.task)

  -- the turn in a seat's view is the ring's
  abbrev pub HasTurn : Option (HeldTurn T) → Type 0
  HasTurn None = (p : TurnState) → b.turn ≢ won_by j p
  HasTurn (Some h) = (b.turn ≡ won_by j h.state) × (h.behind ≡ b.given) × (h.told ≡ upto b.told (b.given + knows_next h.state))

  -- a holder that saw the next task done in its last step still finds it so
  abbrev pub HasFound : Option (HeldTurn T) → ℕ → Type 0
  HasFound None n = Unit {0}
  HasFound (Some h) n = h.state ≡ Open → (m : Bool) → n ≡ 8 * h.behind + number_of (done m) → b.phase h.behind ≡ done m

  -- the block in a seat's view is the one that it reads, and it reads no other
  abbrev pub HasBlock : Option ℕ → Type 0
  HasBlock None = (u : ℕ) → b.block u ≢ read_by j
  HasBlock (Some x) = (b.block x ≡ read_by j) × ((u : ℕ) → b.block u ≡ read_by j → u ≡ x)

  -- the first seat knows all tasks, the number of other seats, and how far its fill is
  abbrev pub HasLead : Option (Lead T) → Type 0
  HasLead None = j ≢ b.lead
  HasLead (Some l) = (j ≡ b.lead) × (l.told ≡ b.told) × (l.filled ≡ b.filled) × (l.out ≡ b.out) × (l.fill ≡ b.fill)

  -- a seat that was taken in has nothing
  abbrev pub HasBase : Option T → Option (HeldTask T) → Option (HeldTurn T) → List Entry → Type 0
  HasBase None job turn own = (job ≡ None) × (turn ≡ None) × (own ≡ [])
  HasBase (Some x) job turn own = x ≡ upto b.told 0

  -- what the seat at a place knows of the ring is so
  pub record Knows (v : View T) : Type 0 where
    pub job : HasJob v.job
    pub turn : HasTurn v.turn
    pub block : HasBlock v.block
    pub lead : HasLead v.lead
    pub seen : Sees b v.seen v.stopped
    pub found : HasFound v.turn v.saw.word
    pub base : HasBase v.base v.job v.turn v.own

module _ {T R P S : Type 0} (upto : T → ℕ → T) (is_rows : T → ℕ → R → Type 0) (is_piece : T → ℕ → P → Type 0)
    (is_stage : T → ℕ → Bool → S → Type 0) (told : T) (place : maybe.Option (maybe.Option (SlotValue R P S))) (t : ℕ) where
  -- what lies in the slot of a task's cell: the piece of a done one, and nothing for an idle or ready one and for the mark
  abbrev pub AtHome : RingPhase → Type 0
  AtHome idle = place ≡ some (some Empty)
  AtHome ready = place ≡ some (some Empty)
  AtHome (done false) = (p : P) × (place ≡ some (some (Piece p))) × is_piece (upto told (t + 1)) t p
  AtHome (done true) = place ≡ some (some Empty)
  AtHome _ = Unit {0}

module _ {T R P S : Type 0} (is_told : T → ℕ → Type 0) (upto : T → ℕ → T) (first : T → ℕ → ℕ) (is_rows : T → ℕ → R → Type 0)
    (is_piece : T → ℕ → P → Type 0) (is_stage : T → ℕ → Bool → S → Type 0) (size : ℕ) (s : State (SlotValue R P S) (View T))
    (b : RingState T) where
  -- the words, and what the seats know
  pub record Shape : Type 0 where
    pub some_cell : 0 < size
    pub few_cells : size ≤ 1024
    pub words_wide : length s.words ≡ 2 * size + 1
    pub homes_wide : length s.homes ≡ 2 * size + 1
    pub assembled_given : b.assembled ≤ b.given
    pub given_filled : b.given ≤ b.filled
    pub filled_room : b.filled ≤ b.given + size
    pub filled_end : b.filled ≤ 2 ^ 42
    pub told : is_told b.told b.filled
    pub led : b.lead < length s.views
    pub alive : total (λ v. live v.base) s.views ≡ b.out + 1
    pub each_task : (t : ℕ) → Fits size b (length s.views) t (b.phase t)
    pub each_word : (t : ℕ) → b.given ≤ t → t < b.given + size → slice_index s.words (t % size + 1) ≡ 8 * t + number_of (b.phase t)
    pub turn_is : slice_index s.words 0 ≡ turn_word b.assembled b.turn
    pub turn_fits : TurnFits b (length s.views) b.turn
    pub each_seat : (j : ℕ) (v : View T) → get_elem? s.views j ≡ some v → Knows upto b j v

  -- while the turn is free its stage is at home, with the given tasks behind it
  abbrev pub StageHome : RingTurn → Type 0
  StageHome (free x) = (st : S) × (get_elem? s.homes 0 ≡ some (some (Stage st))) × is_stage (upto b.told (b.given + extra x)) b.given x st
  StageHome (won_by j p) = Unit {0}

  -- the slot of a taken cell is empty, unless the holder of the turn has it
  abbrev pub EmptyBut : RingTurn → Type 0
  EmptyBut (won_by j TookPiece) = Unit {0}
  EmptyBut _ = get_elem? s.homes (b.given % size + 1) ≡ some (some Empty)

  -- the values in the slots
  pub record Home : Type 0 where
    pub taken_cell : (m : Bool) → b.phase b.given ≡ taken m → EmptyBut b.turn
    pub each_cell : (t : ℕ) → b.given ≤ t → t < b.given + size
        → AtHome upto is_rows is_piece is_stage b.told (get_elem? s.homes (t % size + 1)) t (b.phase t)
    pub stage : StageHome b.turn

module _ {T : Type 0} (upto : T → ℕ → T) (first : T → ℕ → ℕ) (filled : ℕ) (told : T) (fill : FillState T) (phase : ℕ → RingPhase) (u : ℕ) where
  -- which blocks can be where; a reader's job needs its block
  abbrev pub BlockFits : RingBlock → Type 0
  BlockFits blank = begun_of fill filled ≤ u
  BlockFits coming = (u ≡ filled) × (fill ≡ Begun)
  BlockFits kept = u < begun_of fill filled
  BlockFits (read_by j) = (u < filled) × (t : ℕ) × (phase t ≡ held j) × (first_of_task upto first told t ≤ u) × (u ≤ t)

module _ {T : Type 0} (is_told : T → ℕ → Type 0) (upto : T → ℕ → T) (filled : ℕ) (told : T) (block : ℕ → RingBlock) where
  -- where the block of the next task is, and its data once it is at home
  abbrev pub FillFits : FillState T → Type 0
  FillFits Waiting = Unit {0}
  FillFits Begun = block filled ≡ coming
  FillFits (Stored next) = (block filled ≡ kept) × is_told next (filled + 1) × ((k : ℕ) → k ≤ filled → upto next k ≡ upto told k)

module _ {T R P S : Type 0} (upto : T → ℕ → T) (is_rows : T → ℕ → R → Type 0) (told : T) (place : maybe.Option (maybe.Option (SlotValue R P S))) (u : ℕ) where
  -- what lies in the slot of a block: its own rows while it is at home, and nothing before the first fill
  abbrev pub BlockHome : RingBlock → Type 0
  BlockHome blank = place ≡ some (some Empty)
  BlockHome kept = (r : R) × (place ≡ some (some (Rows r))) × is_rows (upto told (u + 1)) u r
  BlockHome _ = Unit {0}

-- the first of the blocks whose words and slots stand in the table
abbrev pub oldest : {T : Type 0} → ℕ → RingState T → ℕ
oldest size b = begun_of b.fill b.filled - size

module _ {T R P S : Type 0} (is_told : T → ℕ → Type 0) (upto : T → ℕ → T) (first : T → ℕ → ℕ) (is_rows : T → ℕ → R → Type 0) (size : ℕ)
    (s : State (SlotValue R P S) (View T)) (b : RingState T) where
  -- the blocks: each from the first that the tasks not yet assembled need to the last one begun stands in the table, with
  -- its own rows at home or with one reader
  pub record Blocks : Type 0 where
    pub room : begun_of b.fill b.filled ≤ first_of_task upto first b.told b.assembled + size
    pub each_block : (u : ℕ) → BlockFits upto first b.filled b.told b.fill b.phase u (b.block u)
    pub in_hand : FillFits is_told upto b.filled b.told b.block b.fill
    pub each_block_word : (u : ℕ) → oldest size b ≤ u → u < oldest size b + size
        → slice_index s.words (u % size + 1 + size) ≡ 4 * u + block_number (b.block u)
    pub each_block_home : (u : ℕ) → oldest size b ≤ u → u < oldest size b + size
        → BlockHome upto is_rows (told_with b.fill b.told) (get_elem? s.homes (u % size + 1 + size)) u (b.block u)

abbrev pub same_mark : Bool → Bool → Bool
same_mark true true = true
same_mark false false = true
same_mark _ _ = false

-- two entries that count as one
abbrev pub same : Entry → Entry → Bool
same (Claim t) (Claim u) = t == u
same (Deposit t m) (Deposit u n) = (t == u) && same_mark m n
same (Take t) (Take u) = t == u
same (Give t) (Give u) = t == u
same _ _ = false

-- how often an entry stands in a list
abbrev pub times : Entry → List Entry → ℕ
times e xs = total (λ x. if same e x then 1 else 0) xs

-- how many claims, deposits (with this mark), takes and gives a task has had, by where it is
abbrev pub claims_of : RingPhase → ℕ
claims_of idle = 0
claims_of ready = 0
claims_of _ = 1

abbrev pub deposits_of : Bool → RingPhase → ℕ
deposits_of m (done n) = if same_mark m n then 1 else 0
deposits_of m (taken n) = if same_mark m n then 1 else 0
deposits_of m past = if m then 0 else 1
deposits_of m _ = 0

abbrev pub takes_of : RingPhase → ℕ
takes_of (taken m) = 1
takes_of past = 1
takes_of _ = 0

abbrev pub gives_of : RingPhase → ℕ
gives_of past = 1
gives_of _ = 0

-- how often an entry has to stand in all views together
abbrev pub due : {T : Type 0} → RingState T → Entry → ℕ
due b (Claim t) = claims_of (b.phase t)
due b (Deposit t m) = deposits_of m (b.phase t)
due b (Take t) = takes_of (b.phase t)
due b (Give t) = gives_of (b.phase t)

-- each claim, deposit, take and give was made once, and no other
abbrev pub Counts : {T : Type 0} → RingState T → List (View T) → Type 0
Counts b views = (e : Entry) → total (λ v. times e v.own) views ≡ due b e

module _ {T : Type 0} where
  -- no other seat has taken it in
  abbrev pub IsLive : View T → Type 0
  IsLive v = live v.base ≡ 1

  -- of a seat that has done nothing and saw nothing
  abbrev pub new_view : Option T → Option (Lead T) → View T
  new_view base lead = record {
    base = base;
    lead = lead;
    seen = 0;
    stopped = false;
    saw = no_step;
    before = no_step;
    missed = no_step;
    job = None;
    block = None;
    turn = None;
    own = [];
  }

  -- the view of the first seat of a new ring
  abbrev pub start : T → View T
  start told = new_view (Some told) (Some (record { told = told; filled = 0; out = 0; fill = Waiting }))

-- the same, of the view of the token that carries the data
abbrev pub first_view : {T : Type 0} → Option T → View T
first_view None = new_view None None
first_view (Some x) = start x

module _ {T R P S : Type 0} (is_told : T → ℕ → Type 0) (upto : T → ℕ → T) (first : T → ℕ → ℕ) (is_rows : T → ℕ → R → Type 0)
    (is_piece : T → ℕ → P → Type 0) (is_stage : T → ℕ → Bool → S → Type 0) where
  -- the table shows this state of the ring
  pub record ShowsAs (size : ℕ) (s : State (SlotValue R P S) (View T)) (b : RingState T) : Type 0 where
    pub shape : Shape is_told upto first is_rows is_piece is_stage size s b
    pub home : Home is_told upto first is_rows is_piece is_stage size s b
    pub blocks : Blocks is_told upto first is_rows size s b
    pub count : Counts b s.views

  -- the rule
  abbrev pub Shows : ℕ → State (SlotValue R P S) (View T) → Type 0
  Shows size s = (b : RingState T) × ShowsAs size s b
