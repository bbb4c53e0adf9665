-- Each step that is an event of the core takes a table to one whose core is the next, and each other step leaves the core.
use Rattle.std.specs.Prelude.{◌^◌, ◌≡◌, ◌≢◌, ◌⊎◌, List, ℕ, Bool, true, false, ◌<◌, ◌≤◌, Some, ◌+◌, ◌*◌, ◌%◌, length, slice_index, slice_set, None}
use mathlib.Core.Option.{none, some}
use mathlib.Core.Option as maybe
use lib.ListN.{get_elem?}
use Rattle.atomic_table.specs.Table.{State}
use Rattle.saber_core.specs.declared.events.Event.{Event}
use Rattle.saber_core.specs.declared.events.Event.TheVariants as event
use Rattle.saber_core.specs.Machine.{next}
use Rattle.saber_ring.specs.declared.view.SlotValue.{SlotValue}
use Rattle.saber_ring.specs.declared.view.SlotValue.TheVariants.{Empty, Rows, Stage}
use Rattle.saber_ring.specs.declared.view.HeldTask.{HeldTask}
use Rattle.saber_ring.specs.declared.view.HeldTurn.{HeldTurn}
use Rattle.saber_ring.specs.declared.view.Lead.{Lead}
use Rattle.saber_ring.specs.declared.view.TurnState.TheVariants.{TookPiece}
use Rattle.saber_ring.specs.declared.view.FillState.{FillState}
use Rattle.saber_ring.specs.declared.view.FillState.TheVariants.{Waiting, Begun, Stored}
use Rattle.saber_ring.specs.declared.view.View.{View}
use Rattle.saber_ring.specs.Shows.{first_of_task, begun_of, oldest, RingState, ShowsAs, IsLive, AtHome, number_of, done, taken, free, turn_word}
use Rattle.saber_ring.specs.Plays.{word_before, stored, reading, without_block, looked, looked_turn, missing, begun, leaving, with_job, without_job, with_turn, without_turn, with_take, went_on, led, more_filled, turn_behind, state_shown, is_stopped, taken_state}
use Rattle.saber_ring.specs.Cores.{core_of}

-- a piece comes out of its slot, and the mark has none
abbrev pub after_take : {A : Type 0} → Bool → List (maybe.Option A) → ℕ → List (maybe.Option A)
after_take false homes i = slice_set homes i none
after_take true homes i = homes

-- the places of the words of a task's cell and of a block, in a ring of so many cells
abbrev pub cell_of : ℕ → ℕ → ℕ
cell_of size t = t % size + 1

abbrev pub block_of : ℕ → ℕ → ℕ
block_of size u = u % size + 1 + size

module _ {A V : Type 0} where
  -- the table after a step of the seat at a place: it wrote a word, and these are the slots and its view
  abbrev pub wrote : State A V → ℕ → ℕ → List (maybe.Option A) → ℕ → V → State A V
  wrote s i word homes id v = record { words = slice_set s.words i word; homes = homes; views = slice_set s.views id v }

  -- the table after a load: the words are as before
  abbrev pub loaded : State A V → List (maybe.Option A) → ℕ → V → State A V
  loaded s homes id v = record { words = s.words; homes = homes; views = slice_set s.views id v }

module _ {T R P S : Type 0} (is_told : T → ℕ → Type 0) (upto : T → ℕ → T) (first : T → ℕ → ℕ) (is_rows : T → ℕ → R → Type 0)
    (is_piece : T → ℕ → P → Type 0) (is_stage : T → ℕ → Bool → S → Type 0) where
  -- the tables of a ring
  abbrev pub TableOf : Type 0
  TableOf = State (SlotValue R P S) (View T)

  -- the table shows this state of the ring
  abbrev pub IsTable : ℕ → TableOf → RingState T → Type 0
  IsTable size s b = ShowsAs is_told upto first is_rows is_piece is_stage size s b

  -- the step leads to a table that shows a state whose core is the next one after this event
  abbrev pub MakesEvent : ℕ → TableOf → RingState T → TableOf → Event → Type 0
  MakesEvent size s b s' e =
      (b' : RingState T) × IsTable size s' b'
      × (core_of size (length s.views) b' ≡ next (core_of size (length s.views) b) e)

  -- the step leads to a table that shows a state with the same core
  abbrev pub LeavesCore : ℕ → TableOf → RingState T → TableOf → Type 0
  LeavesCore size s b s' =
      (b' : RingState T) × IsTable size s' b'
      × (core_of size (length s.views) b' ≡ core_of size (length s.views) b)

  -- a seat without a job that finds READY(t) and writes HELD(t) claims t
  abbrev pub claimed_by : ℕ → TableOf → RingState T → ℕ → View T → ℕ → TableOf
  claimed_by size s b id v t =
      wrote s (cell_of size t) (8 * t + 3) (slice_set s.homes (cell_of size t) none) id
      (with_job v (cell_of size t) (8 * t + 2) (record { task = t; told = upto b.told (t + 1) }))

  abbrev pub ClaimIsItsEvent : Type 0
  ClaimIsItsEvent =
      (size id t : ℕ) (s : TableOf) (b : RingState T) (v : View T) → IsTable size s b
      → get_elem? s.views id ≡ some v → v.job ≡ None → IsLive v → slice_index s.words (cell_of size t) ≡ 8 * t + 2
      → MakesEvent size s b (claimed_by size s b id v t) (event.Claim id t)

  -- a seat with a job that puts a piece, or nothing, and writes DONE or MARKED deposits its task
  abbrev pub deposited_by : ℕ → TableOf → ℕ → View T → ℕ → Bool → SlotValue R P S → TableOf
  deposited_by size s id v t m y =
      wrote s (cell_of size t) (8 * t + number_of (done m)) (slice_set s.homes (cell_of size t) (some y)) id
      (without_job v (cell_of size t) (8 * t + number_of (done m)) t m)

  -- the value is what has to lie at home for a task that is done, by the data of its job
  abbrev pub IsHandedIn : HeldTask T → Bool → SlotValue R P S → Type 0
  IsHandedIn x m y =
      (told : T) → upto told (x.task + 1) ≡ x.told
      → AtHome upto is_rows is_piece is_stage told (some (some y)) x.task (done m)

  abbrev pub DepositIsItsEvent : Type 0
  DepositIsItsEvent =
      (size id : ℕ) (m : Bool) (y : SlotValue R P S) (s : TableOf) (b : RingState T) (v : View T) (x : HeldTask T)
      → IsTable size s b → get_elem? s.views id ≡ some v → v.job ≡ Some x → v.block ≡ None → IsLive v → IsHandedIn x m y
      → MakesEvent size s b (deposited_by size s id v x.task m y) (event.Deposit id x.task m)

  -- a seat that finds an even word of the turn, and writes the next, wins it
  abbrev pub won : TableOf → ℕ → View T → ℕ → T → TableOf
  won s id v n told =
      wrote s 0 (n + 1) (slice_set s.homes 0 none) id
      (with_turn v n (record { behind = turn_behind n; state = state_shown n; told = told }))

  abbrev pub WinIsItsEvent : Type 0
  WinIsItsEvent =
      (size id n : ℕ) (s : TableOf) (b : RingState T) (v : View T) → IsTable size s b
      → get_elem? s.views id ≡ some v → IsLive v → slice_index s.words 0 ≡ n → n % 2 ≡ 0
      → (b' : RingState T) × (told : T) × IsTable size (won s id v n told) b'
      × (core_of size (length s.views) b' ≡ next (core_of size (length s.views) b) (event.Win id))

  -- a seat with the turn that puts the stage, and writes an even word, releases it
  abbrev pub released_by : TableOf → ℕ → View T → HeldTurn T → S → TableOf
  released_by s id v h st =
      wrote s 0 (turn_word h.behind (free (is_stopped h.state))) (slice_set s.homes 0 (some (Stage st))) id
      (without_turn v (turn_word h.behind (free (is_stopped h.state))) h)

  abbrev pub ReleaseIsItsEvent : Type 0
  ReleaseIsItsEvent =
      (size id : ℕ) (s : TableOf) (b : RingState T) (v : View T) (h : HeldTurn T) (st : S) → IsTable size s b
      → get_elem? s.views id ≡ some v → v.turn ≡ Some h → h.state ≢ TookPiece
      → is_stage h.told h.behind (is_stopped h.state) st → IsLive v
      → MakesEvent size s b (released_by s id v h st) (event.Release id)

  -- the holder that finds DONE or MARKED in the cell of its next task, and writes TAKEN or GONE, takes it
  abbrev pub taken_by : ℕ → TableOf → RingState T → ℕ → View T → ℕ → Bool → TableOf
  taken_by size s b id v k m =
      wrote s (cell_of size k) (8 * k + number_of (taken m)) (after_take m s.homes (cell_of size k)) id
      (with_take v (cell_of size k) (8 * k + number_of (done m))
      (record { behind = k; state = taken_state m; told = upto b.told (k + 1) }))

  abbrev pub TakeIsItsEvent : Type 0
  TakeIsItsEvent =
      (size id : ℕ) (m : Bool) (s : TableOf) (b : RingState T) (v : View T) (h : HeldTurn T) → IsTable size s b
      → get_elem? s.views id ≡ some v → v.turn ≡ Some h → IsLive v
      → slice_index s.words (cell_of size h.behind) ≡ 8 * h.behind + number_of (done m)
      → MakesEvent size s b (taken_by size s b id v h.behind m) (event.Take id)

  -- the holder of a taken piece that writes IDLE for the task a lap later gives its task
  abbrev pub given_by : ℕ → TableOf → ℕ → View T → HeldTurn T → TableOf
  given_by size s id v h =
      wrote s (cell_of size h.behind) (8 * (h.behind + size)) (slice_set s.homes (cell_of size h.behind) (some Empty)) id
      (went_on v (cell_of size h.behind) (8 * (h.behind + size)) h)

  abbrev pub GiveIsItsEvent : Type 0
  GiveIsItsEvent =
      (size id : ℕ) (s : TableOf) (b : RingState T) (v : View T) (h : HeldTurn T) → IsTable size s b
      → get_elem? s.views id ≡ some v → v.turn ≡ Some h → h.state ≡ TookPiece → IsLive v
      → MakesEvent size s b (given_by size s id v h) (event.Give id)

  -- a load, or an exchange that found another word, leaves the state of the ring, and so its core; the words of blocks are for
  -- seats without the turn
  abbrev pub LookIsNoEvent : Type 0
  LookIsNoEvent =
      (size id i : ℕ) (s : TableOf) (b : RingState T) (v : View T) → IsTable size s b
      → get_elem? s.views id ≡ some v → (i ≤ size) ⊎ (v.turn ≡ None)
      → IsTable size (loaded s s.homes id (looked v i (slice_index s.words i))) b
      × IsTable size (loaded s s.homes id (missing v i (slice_index s.words i))) b
      × IsTable size (loaded s s.homes id (looked_turn v (slice_index s.words 0))) b

  -- the first seat that has room finds the block of the next task home or never filled, and takes it: this leaves the core
  abbrev pub begun_by : ℕ → TableOf → ℕ → View T → Lead T → TableOf
  begun_by size s id v l =
      wrote s (block_of size l.filled) (4 * l.filled + 1) (slice_set s.homes (block_of size l.filled) none) id
      (led v (block_of size l.filled) (word_before size l.filled) (begun l))

  abbrev pub BeginIsNoEvent : Type 0
  BeginIsNoEvent =
      (size id : ℕ) (s : TableOf) (b : RingState T) (v : View T) (l : Lead T) → IsTable size s b
      → get_elem? s.views id ≡ some v → v.lead ≡ Some l → IsLive v → v.turn ≡ None → l.fill ≡ Waiting
      → l.filled < first_of_task upto first l.told v.seen + size
      → (slice_index s.words (block_of size l.filled) ≡ word_before size l.filled)
      × (LeavesCore size s b (begun_by size s id v l))

  -- the seat with a job that finds a block home that its task needs, and takes it for reading, leaves the core
  abbrev pub read_of : ℕ → TableOf → ℕ → View T → ℕ → TableOf
  read_of size s id v u =
      wrote s (block_of size u) (4 * u + 3) (slice_set s.homes (block_of size u) none) id
      (reading v (block_of size u) (4 * u + 2) u)

  abbrev pub ReadIsNoEvent : Type 0
  ReadIsNoEvent =
      (size id u : ℕ) (s : TableOf) (b : RingState T) (v : View T) (x : HeldTask T) → IsTable size s b
      → get_elem? s.views id ≡ some v → v.job ≡ Some x → v.block ≡ None → v.turn ≡ None → IsLive v
      → first_of_task upto first x.told x.task ≤ u → u ≤ x.task → slice_index s.words (block_of size u) ≡ 4 * u + 2
      → LeavesCore size s b (read_of size s id v u)

  -- the seat that puts the rows of the block that it reads back, and writes that it is home, leaves the core
  abbrev pub returned_by : ℕ → TableOf → ℕ → View T → ℕ → R → TableOf
  returned_by size s id v u r =
      wrote s (block_of size u) (4 * u + 2) (slice_set s.homes (block_of size u) (some (Rows r))) id
      (without_block v (block_of size u) (4 * u + 2))

  abbrev pub ReturnIsNoEvent : Type 0
  ReturnIsNoEvent =
      (size id u : ℕ) (s : TableOf) (b : RingState T) (v : View T) (x : HeldTask T) (r : R) → IsTable size s b
      → get_elem? s.views id ≡ some v → v.job ≡ Some x → v.block ≡ Some u → v.turn ≡ None → IsLive v
      → is_rows (upto x.told (u + 1)) u r
      → LeavesCore size s b (returned_by size s id v u r)

  -- the holder of a taken piece that gives the slot of its cell back leaves the core
  abbrev pub put_back_by : ℕ → TableOf → ℕ → View T → HeldTurn T → TableOf
  put_back_by size s id v h =
      loaded s (slice_set s.homes (cell_of size h.behind) (some Empty)) id
      (leaving v (cell_of size h.behind) (slice_index s.words (cell_of size h.behind)) h)

  abbrev pub PutBackIsNoEvent : Type 0
  PutBackIsNoEvent =
      (size id : ℕ) (s : TableOf) (b : RingState T) (v : View T) (h : HeldTurn T) → IsTable size s b
      → get_elem? s.views id ≡ some v → v.turn ≡ Some h → h.state ≡ TookPiece → IsLive v
      → LeavesCore size s b (put_back_by size s id v h)

  -- block u is at home with its own rows
  abbrev pub IsHome : ℕ → TableOf → RingState T → ℕ → Type 0
  IsHome size s b u =
      (slice_index s.words (block_of size u) ≡ 4 * u + 2)
      × ((r : R) × (get_elem? s.homes (block_of size u) ≡ some (some (Rows r))) × is_rows (upto b.told (u + 1)) u r)

  -- the seat has a job, which needs block u
  abbrev pub HasNeedOf : RingState T → View T → ℕ → Type 0
  HasNeedOf b v u = (x : HeldTask T) × (v.job ≡ Some x) × (first_of_task upto first b.told x.task ≤ u) × (u ≤ x.task)

  -- the word of block u shows that it is read, and exactly one view has it, whose job needs it
  abbrev pub IsWithOne : ℕ → TableOf → RingState T → ℕ → Type 0
  IsWithOne size s b u =
      (slice_index s.words (block_of size u) ≡ 4 * u + 3)
      × ((j : ℕ) × (v : View T) × (get_elem? s.views j ≡ some v) × (v.block ≡ Some u)
      × ((i : ℕ) (w : View T) → get_elem? s.views i ≡ some w → w.block ≡ Some u → i ≡ j) × HasNeedOf b v u)

  abbrev pub IsWhole : ℕ → TableOf → RingState T → ℕ → Type 0
  IsWhole size s b u = IsHome size s b u ⊎ IsWithOne size s b u

  -- the blocks from the first that a task not yet assembled needs to the last one filled
  abbrev pub IsInNeed : RingState T → ℕ → Type 0
  IsInNeed b u = (first_of_task upto first b.told b.assembled ≤ u) × (u < b.filled)

  -- no task is filled too far ahead of the blocks in need; each of them is whole, and so is the need of each task that is filled
  -- and not assembled
  abbrev pub NeedsAreWhole : Type 0
  NeedsAreWhole =
      (size : ℕ) (s : TableOf) (b : RingState T) → IsTable size s b
      → (b.filled ≤ first_of_task upto first b.told b.assembled + size)
      × ((u : ℕ) → IsInNeed b u → IsWhole size s b u)
      × ((t u : ℕ) → b.assembled ≤ t → t < b.filled → first_of_task upto first b.told t ≤ u → u ≤ t → IsWhole size s b u)

  -- the first seat that has the block of the next task puts the rows back, and writes that they are home: this leaves the core
  abbrev pub stored_by : ℕ → TableOf → ℕ → View T → Lead T → R → T → TableOf
  stored_by size s id v l r told =
      wrote s (block_of size l.filled) (4 * l.filled + 2) (slice_set s.homes (block_of size l.filled) (some (Rows r))) id
      (led v (block_of size l.filled) (4 * l.filled + 2) (stored l told))

  abbrev pub StoreIsNoEvent : (T → R → T) → Type 0
  StoreIsNoEvent filled =
      (size id : ℕ) (s : TableOf) (b : RingState T) (v : View T) (l : Lead T) (r : R) → IsTable size s b
      → get_elem? s.views id ≡ some v → v.lead ≡ Some l → l.fill ≡ Begun
      → is_rows (filled l.told r) l.filled r → is_told (filled l.told r) (l.filled + 1) → IsLive v → v.turn ≡ None
      → LeavesCore size s b (stored_by size s id v l r (filled l.told r))

  -- the first seat whose next block is home finds the task's cell idle, and writes READY: it has filled the task
  abbrev pub filled_by : ℕ → TableOf → ℕ → View T → Lead T → T → TableOf
  filled_by size s id v l told =
      wrote s (cell_of size l.filled) (8 * l.filled + 2) s.homes id
      (led v (cell_of size l.filled) (8 * l.filled) (more_filled l told))

  abbrev pub FillIsItsEvent : Type 0
  FillIsItsEvent =
      (size id : ℕ) (s : TableOf) (b : RingState T) (v : View T) (l : Lead T) (told : T) → IsTable size s b
      → get_elem? s.views id ≡ some v → v.lead ≡ Some l → l.fill ≡ Stored told → l.filled < 2 ^ 42 → IsLive v
      → (slice_index s.words (cell_of size l.filled) ≡ 8 * l.filled)
      × (MakesEvent size s b (filled_by size s id v l told) event.Fill)

  -- the word of the block that is being filled, and of that block once its rows are home
  abbrev pub FillWord : ℕ → TableOf → ℕ → FillState T → Type 0
  FillWord size s d Waiting = Unit {0}
  FillWord size s d Begun = slice_index s.words (block_of size d) ≡ 4 * d + 1
  FillWord size s d (Stored told) = slice_index s.words (block_of size d) ≡ 4 * d + 2

  -- Of the last blocks that were begun, as many as the ring has: the word of a filled one shows it at home or read, that of the next
  -- one how far its fill is, and a place that was never filled shows the block that it is for. While a block is being filled, the
  -- block a lap before it is none of these.
  abbrev pub BlockWordsAre : Type 0
  BlockWordsAre =
      (size : ℕ) (s : TableOf) (b : RingState T) → IsTable size s b
      → ((u : ℕ) → oldest size b ≤ u → u < b.filled
      → (slice_index s.words (block_of size u) ≡ 4 * u + 2) ⊎ (slice_index s.words (block_of size u) ≡ 4 * u + 3))
      × FillWord size s b.filled b.fill
      × ((u : ℕ) → begun_of b.fill b.filled ≤ u → u < size → slice_index s.words (block_of size u) ≡ 4 * u)
