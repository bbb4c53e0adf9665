-- What each step tells its seat: the seat after it, by an equation, and facts that the rule has at that moment.
-- In a play st is the step (its word and operands), m the seat before (its view, and the slots that it has with their values), n the word
-- found (a store: the word stored), and m' the seat after.
use Rattle.std.specs.Prelude.{◌^◌, ◌≡◌, ◌≢◌, ℕ, Bool, true, false, ◌+◌, ◌-◌, ◌*◌, ◌/◌, ◌%◌, ◌<◌, ◌≤◌, if◌then◌else◌, nat_lt, ◌||◌, ◌⊎◌, List, [], ◌∷◌, ◌++◌, Some, None}
use Rattle.atomic_table.specs.Table.{Me, Step, rest}
use Rattle.saber_ring.specs.declared.view.SlotValue.{SlotValue}
use Rattle.saber_ring.specs.declared.view.SlotValue.TheVariants.{Empty, Rows, Piece, Stage}
use Rattle.saber_ring.specs.declared.view.TurnState.{TurnState}
use Rattle.saber_ring.specs.declared.view.TurnState.TheVariants.{Open, TookPiece, TookMark, WonStopped, Leaving}
use Rattle.saber_ring.specs.declared.view.FillState.TheVariants.{Waiting, Begun, Stored}
use Rattle.saber_ring.specs.declared.view.Entry.{Entry}
use Rattle.saber_ring.specs.declared.view.Entry.TheVariants.{Claim, Deposit, Take, Give}
use Rattle.saber_ring.specs.declared.view.View.{View}
use Rattle.saber_ring.specs.declared.view.Lead.{Lead}
use Rattle.saber_ring.specs.declared.view.HeldTask.{HeldTask}
use Rattle.saber_ring.specs.declared.view.HeldTurn.{HeldTurn}
use Rattle.saber_ring.specs.Shows.{times, live, turn_word, free, number_of, done, first_of_task}
use Rattle.saber_ring.specs.Seats.{cells_of}

-- the tasks that a word of the turn shows as behind the stage
abbrev pub turn_behind : ℕ → ℕ
turn_behind n = n % 2 ^ 62 / 2

-- the word shows a stopped stage at home
abbrev pub state_shown : ℕ → TurnState
state_shown n = if nat_lt n (2 ^ 62) then Open else WonStopped

-- a release in this state is that of a stopped stage
abbrev pub is_stopped : TurnState → Bool
is_stopped Open = false
is_stopped _ = true

-- after a take, of the mark or not
abbrev pub taken_state : Bool → TurnState
taken_state false = TookPiece
taken_state true = TookMark

module _ {T : Type 0} where
  -- after a step on a word
  abbrev pub looked : View T → ℕ → ℕ → View T
  looked v i n = record v { saw = record { place = i; word = n; number = v.saw.number + 1 }; before = v.saw }

  -- after a look at the word of the turn, which never goes back
  abbrev pub looked_turn : View T → ℕ → View T
  looked_turn v n = record (looked v 0 n) { seen = turn_behind n; stopped = v.stopped || is_stopped (state_shown n) }

  -- after a step of a fill
  abbrev pub led : View T → ℕ → ℕ → Lead T → View T
  led v i n l = record (looked v i n) { lead = Some l }

  -- within a fill: with the block in hand, with the rows at home, and after it
  abbrev pub begun : Lead T → Lead T
  begun l = record l { fill = Begun }

  abbrev pub stored : Lead T → T → Lead T
  stored l told = record l { fill = Stored told }

  abbrev pub more_filled : Lead T → T → Lead T
  more_filled l told = record l { fill = Waiting; told = told; filled = l.filled + 1 }

  -- with a block out for reading, and with none
  abbrev pub reading : View T → ℕ → ℕ → ℕ → View T
  reading v i n u = record (looked v i n) { block = Some u }

  abbrev pub without_block : View T → ℕ → ℕ → View T
  without_block v i n = record (looked v i n) { block = None }

  -- after a claim that won
  abbrev pub with_job : View T → ℕ → ℕ → HeldTask T → View T
  with_job v i n x = record (looked v i n) { job = Some x; own = v.own ++ Claim x.task ∷ [] }

  -- after a claim or a read that was refused
  abbrev pub missing : View T → ℕ → ℕ → View T
  missing v i n = record (looked v i n) { missed = record { place = i; word = n; number = v.saw.number + 1 } }

  -- after a deposit
  abbrev pub without_job : View T → ℕ → ℕ → ℕ → Bool → View T
  without_job v i n t m = record (looked v i n) { job = None; own = v.own ++ Deposit t m ∷ [] }

  -- after a win
  abbrev pub with_turn : View T → ℕ → HeldTurn T → View T
  with_turn v n h = record (looked v 0 n) { turn = Some h; seen = h.behind; stopped = v.stopped || is_stopped h.state }

  -- after a take
  abbrev pub with_take : View T → ℕ → ℕ → HeldTurn T → View T
  with_take v i n h = record (looked v i n) { turn = Some h; own = v.own ++ Take h.behind ∷ [] }

  -- the task is behind the stage
  abbrev pub went_on : View T → ℕ → ℕ → HeldTurn T → View T
  went_on v i n h = record (looked v i n) { turn = Some (record { behind = h.behind + 1; state = Open; told = h.told }); own = v.own ++ Give h.behind ∷ [] }

  -- the slot of the taken cell goes back before the turn does
  abbrev pub leaving : View T → ℕ → ℕ → HeldTurn T → View T
  leaving v i n h = record (looked v i n) { turn = Some (record h { state = Leaving }) }

  -- after a release
  abbrev pub without_turn : View T → ℕ → HeldTurn T → View T
  without_turn v n h = record (looked v 0 n) { turn = None; seen = h.behind; stopped = v.stopped || is_stopped h.state }

-- a stage that the seat saw stopped is stopped in this word
abbrev pub StillStopped : {T : Type 0} → View T → ℕ → Type 0
StillStopped v n = v.stopped ≡ true → is_stopped (state_shown n) ≡ true

-- the last seat finds each task that it knows filled and unclaimed
abbrev pub Refuses : {T : Type 0} → ℕ → View T → Type 0
Refuses t v = (l : Lead _) → v.lead ≡ Some l → l.out ≡ 0 → t < l.filled → times (Claim t) v.own ≢ 0

-- the last seat gets tasks that it knows filled, and none twice
abbrev pub IsNew : {T : Type 0} → ℕ → View T → Type 0
IsNew t v = (l : Lead _) → v.lead ≡ Some l → l.out ≡ 0 → (t < l.filled) × (times (Claim t) v.own ≡ 0)

-- the last seat takes what it deposited, the piece or the mark
abbrev pub IsDeposited : {T : Type 0} → ℕ → Bool → View T → Type 0
IsDeposited k mark v = (l : Lead _) → v.lead ≡ Some l → l.out ≡ 0 → (times (Deposit k mark) v.own ≡ 1) × (times (Take k) v.own ≡ 0)

-- the word of the turn is what these entries leave, with the turn free
abbrev pub Shown : List Entry → ℕ → Type 0
Shown own n =
    (k : ℕ) × (x : Bool) × (n ≡ turn_word k (free x)) × ((t : ℕ) → times (Give t) own ≡ (if nat_lt t k then 1 else 0))
    × (times (Take k) own ≡ (if x then 1 else 0))

-- the last seat, without the turn, sees that word
abbrev pub SeesFree : {T : Type 0} → View T → ℕ → Type 0
SeesFree v n = (l : Lead _) → v.lead ≡ Some l → l.out ≡ 0 → v.turn ≡ None → live v.base ≡ 1 → Shown v.own n

-- by these entries the tasks below k were given, and task k was taken where x
abbrev pub Leaves : List Entry → ℕ → Bool → Type 0
Leaves own k x = ((t : ℕ) → times (Give t) own ≡ (if nat_lt t k then 1 else 0)) × (times (Take k) own ≡ (if x then 1 else 0))

-- the last seat wins what its entries leave
abbrev pub WinsLeft : {T : Type 0} → View T → ℕ → Bool → Type 0
WinsLeft v k x = (l : Lead _) → v.lead ≡ Some l → l.out ≡ 0 → v.turn ≡ None → Leaves v.own k x

-- the last seat without a job, with the turn open in hand, finds the next task done if it was claimed
abbrev pub FindsDone : {T : Type 0} → View T → ℕ → Type 0
FindsDone v n =
    (l : Lead _) (h : HeldTurn _) → v.lead ≡ Some l → l.out ≡ 0 → v.job ≡ None → live v.base ≡ 1 → v.turn ≡ Some h
    → h.state ≡ Open → times (Claim h.behind) v.own ≢ 0 → (n ≡ 8 * h.behind + 4) ⊎ (n ≡ 8 * h.behind + 6)

-- the last seat, with the turn open in hand, finds the next task done as it deposited it
abbrev pub FindsDeposit : {T : Type 0} → View T → ℕ → Type 0
FindsDeposit v n =
    (l : Lead _) (h : HeldTurn _) (m : Bool) → v.lead ≡ Some l → l.out ≡ 0 → live v.base ≡ 1 → v.turn ≡ Some h → h.state ≡ Open
    → times (Deposit h.behind m) v.own ≢ 0 → n ≡ 8 * h.behind + number_of (done m)

-- only a holder that took nothing yet, of a stage that runs, finds the next task done
abbrev pub OnlyOpen : {T : Type 0} → View T → ℕ → Type 0
OnlyOpen v n = (h : HeldTurn _) (m : Bool) → v.turn ≡ Some h → n ≡ 8 * h.behind + number_of (done m) → h.state ≡ Open

-- a seat in a play: its view, and the slots that it has with their values
abbrev pub SeatNow : Type 0 → Type 0 → Type 0 → Type 0 → Type 0
SeatNow T R P S = Me (SlotValue R P S) (View T)

-- what the word of a block shows before it is filled with the rows of task t
abbrev pub word_before : ℕ → ℕ → ℕ
word_before size t = if nat_lt t size then 4 * t else 4 * (t - size) + 2

-- a seat with no block out finds one out only where some other seat is out
abbrev pub IsOthers : {T : Type 0} → View T → Type 0
IsOthers v = (l : Lead _) → v.lead ≡ Some l → v.block ≡ None → l.out ≢ 0

-- what may lie in the slot of a block
abbrev pub IsSpare : {R P S : Type 0} → SlotValue R P S → Type 0
IsSpare Empty = Unit {0}
IsSpare (Rows r) = Unit {0}
IsSpare _ = ⊥

module _ {T R P S : Type 0} where
  abbrev pub sees_turn : Step (SlotValue R P S) → SeatNow T R P S → ℕ → SeatNow T R P S → Type 0
  sees_turn st m n m' = (m' ≡ (looked_turn m.0 n, m.1)) × (m.0.seen ≤ turn_behind n) × SeesFree m.0 n × StillStopped m.0 n

  -- the first seat looks at the cell of the next task
  abbrev pub sees_cell : Step (SlotValue R P S) → SeatNow T R P S → ℕ → SeatNow T R P S → Type 0
  sees_cell st m n m' = m' ≡ (looked m.0 st.word n, m.1)

  -- it looks how many tasks are behind the stage: no more than it filled, and the first that they leave needed is none of a later block
  abbrev pub sees_room : (T → ℕ → T) → (T → ℕ → ℕ) → Step (SlotValue R P S) → SeatNow T R P S → ℕ → SeatNow T R P S → Type 0
  sees_room upto first st m n m' =
      (m' ≡ (looked_turn m.0 n, m.1)) × (m.0.seen ≤ turn_behind n)
      × ((l : Lead T) → m.0.lead ≡ Some l → (turn_behind n ≤ l.filled) × (first_of_task upto first l.told (turn_behind n) ≤ turn_behind n))

  -- it has the block of the next task, and what lay there: nothing, or the rows of an older task that nobody needs
  abbrev pub begins : Step (SlotValue R P S) → SeatNow T R P S → ℕ → SeatNow T R P S → Type 0
  begins st m n m' =
      (l : Lead T) → m.0.lead ≡ Some l → (x : SlotValue R P S) × (n ≡ st.first) × IsSpare x
      × (m' ≡ (led m.0 st.word n (begun l), (st.word, x) ∷ m.1))

  -- the rows are at home
  abbrev pub stores : (T → R → T) → Step (SlotValue R P S) → SeatNow T R P S → ℕ → SeatNow T R P S → Type 0
  stores filled st m n m' = (l : Lead T) (r : R) → m.0.lead ≡ Some l → m.1 ≡ (st.word, Rows r) ∷ rest m.1
      → m' ≡ (led m.0 st.word n (stored l (filled l.told r)), rest m.1)

  -- the task is filled
  abbrev pub fills : Step (SlotValue R P S) → SeatNow T R P S → ℕ → SeatNow T R P S → Type 0
  fills st m n m' = (l : Lead T) (told : T) → m.0.lead ≡ Some l → l.fill ≡ Stored told
      → (n ≡ st.first) × (m' ≡ (led m.0 st.word n (more_filled l told), m.1))

  -- the seat has the task, with the data of the tasks up to it, and its cell's slot, which is empty
  abbrev pub GotTask : (T → ℕ → T) → (T → ℕ → ℕ) → ℕ → ℕ → SeatNow T R P S → ℕ → SeatNow T R P S → Type 0
  GotTask upto first t i m n m' =
      (told : T) × (t < 2 ^ 42) × (m' ≡ (with_job m.0 i n (record { task = t; told = told }), (i, Empty) ∷ m.1))
      × (m.0.base ≡ Some (upto told 0)) × IsNew t m.0 × (upto told (t + 1) ≡ told) × (first_of_task upto first told t ≤ t)

  -- a task is claimed, or its word wasn't the ready one
  abbrev pub claims : (T → ℕ → T) → (T → ℕ → ℕ) → Step (SlotValue R P S) → SeatNow T R P S → ℕ → SeatNow T R P S → Type 0
  claims upto first st m n m' = (t : ℕ) → st.first ≡ 8 * t + 2
      → (n ≡ st.first → GotTask upto first t st.word m n m')
      × (n ≢ st.first → (m' ≡ (missing m.0 st.word n, m.1)) × (st.first < n → t < 2 ^ 42) × Refuses t m.0)

  abbrev pub deposits : Bool → Step (SlotValue R P S) → SeatNow T R P S → ℕ → SeatNow T R P S → Type 0
  deposits mark st m n m' = (x : HeldTask T) → m.0.job ≡ Some x → m' ≡ (without_job m.0 st.word n x.task mark, rest m.1)

  -- the seat has the turn, and the stage that stands behind the tasks that the word shows, stopped or not as it shows
  abbrev pub GotTurn : (T → ℕ → T) → (T → ℕ → Bool → S → Type 0) → SeatNow T R P S → ℕ → SeatNow T R P S → Type 0
  GotTurn upto is_stage m n m' =
      (told : T) × (x : S) × is_stage told (turn_behind n) (is_stopped (state_shown n)) x
      × (m.0.seen ≤ turn_behind n) × (turn_behind n ≤ 2 ^ 42)
      × (m' ≡ (with_turn m.0 n (record { behind = turn_behind n; state = state_shown n; told = told }), (0, Stage x) ∷ m.1))
      × WinsLeft m.0 (turn_behind n) (is_stopped (state_shown n)) × (m.0.base ≡ Some (upto told 0))

  abbrev pub wins : (T → ℕ → T) → (T → ℕ → Bool → S → Type 0) → Step (SlotValue R P S) → SeatNow T R P S → ℕ → SeatNow T R P S → Type 0
  wins upto is_stage st m n m' =
      (n ≡ st.first → GotTurn upto is_stage m n m')
      × (n ≢ st.first → (m' ≡ (looked_turn m.0 n, m.1)) × (m.0.seen ≤ turn_behind n) × SeesFree m.0 n)

  -- the holder of the turn looks for the next piece
  abbrev pub sees_piece : Step (SlotValue R P S) → SeatNow T R P S → ℕ → SeatNow T R P S → Type 0
  sees_piece st m n m' = (m' ≡ (looked m.0 st.word n, m.1)) × FindsDone m.0 n × OnlyOpen m.0 n × FindsDeposit m.0 n

  -- a piece is taken with its slot, the mark without one
  abbrev pub Took : (T → ℕ → P → Type 0) → Bool → HeldTurn T → T → ℕ → SeatNow T R P S → ℕ → SeatNow T R P S → Type 0
  Took is_piece false h told i m n m' =
      (p : P) × is_piece told h.behind p
      × (m' ≡ (with_take m.0 i n (record { behind = h.behind; state = TookPiece; told = told }), (i, Piece p) ∷ m.1))
  Took is_piece true h told i m n m' = m' ≡ (with_take m.0 i n (record { behind = h.behind; state = TookMark; told = told }), m.1)

  -- the data of the turn go on by the task that is taken
  abbrev pub TookNext : (T → ℕ → T) → (T → ℕ → P → Type 0) → Bool → HeldTurn T → ℕ → SeatNow T R P S → ℕ → SeatNow T R P S → Type 0
  TookNext upto is_piece mark h i m n m' =
      (told : T) × (h.told ≡ upto told h.behind) × (m.0.base ≡ Some (upto told 0)) × Took is_piece mark h told i m n m'

  abbrev pub takes_piece : (T → ℕ → T) → (T → ℕ → P → Type 0) → Bool → Step (SlotValue R P S) → SeatNow T R P S → ℕ → SeatNow T R P S → Type 0
  takes_piece upto is_piece mark st m n m' = (h : HeldTurn T) → m.0.turn ≡ Some h
      → (n ≡ st.first → (h.behind < 2 ^ 42) × (h.state ≡ Open) × IsDeposited h.behind mark m.0 × TookNext upto is_piece mark h st.word m n m')
      × (n ≢ st.first → (m' ≡ (looked m.0 st.word n, m.1)) × (h.state ≡ Open → m.0.saw.word ≢ st.first))

  abbrev pub goes_on : Step (SlotValue R P S) → SeatNow T R P S → ℕ → SeatNow T R P S → Type 0
  goes_on st m n m' = (h : HeldTurn T) → m.0.turn ≡ Some h → (h.behind < 2 ^ 42) × (m' ≡ (went_on m.0 st.word n h, rest m.1))

  abbrev pub releases : Step (SlotValue R P S) → SeatNow T R P S → ℕ → SeatNow T R P S → Type 0
  releases st m n m' = (h : HeldTurn T) → m.0.turn ≡ Some h → (m' ≡ (without_turn m.0 n h, rest m.1)) × (m.0.seen ≤ h.behind)

  -- a look that gives the slot back that was taken last
  abbrev pub puts_back : Step (SlotValue R P S) → SeatNow T R P S → ℕ → SeatNow T R P S → Type 0
  puts_back st m n m' = (h : HeldTurn T) → m.0.turn ≡ Some h → (m' ≡ (leaving m.0 st.word n h, rest m.1)) × (n ≡ 8 * h.behind + 5)

  -- a seat with a job looks at a block that its task needs: it is at home, or out for reading
  abbrev pub sees_block : (T → ℕ → T) → (T → ℕ → ℕ) → Step (SlotValue R P S) → SeatNow T R P S → ℕ → SeatNow T R P S → Type 0
  sees_block upto first st m n m' =
      (x : HeldTask T) (u : ℕ) → m.0.job ≡ Some x → first_of_task upto first x.told x.task ≤ u → u ≤ x.task
      → st.word ≡ u % cells_of st.slots + 1 + cells_of st.slots
      → (n ≡ 4 * u + 2 → m' ≡ (looked m.0 st.word n, m.1))
      × (n ≢ 4 * u + 2 → (n ≡ 4 * u + 3) × (m' ≡ (missing m.0 st.word n, m.1)) × IsOthers m.0)

  -- it has the block, with its rows, or another seat was faster
  abbrev pub reads : (T → ℕ → T) → (T → ℕ → R → Type 0) → Step (SlotValue R P S) → SeatNow T R P S → ℕ → SeatNow T R P S → Type 0
  reads upto is_rows st m n m' = (u : ℕ) (x : HeldTask T) → m.0.job ≡ Some x → st.first ≡ 4 * u + 2
      → (n ≡ st.first → (r : R) × is_rows (upto x.told (u + 1)) u r × (m' ≡ (reading m.0 st.word n u, (st.word, Rows r) ∷ m.1)))
      × (n ≢ st.first → (n ≡ 4 * u + 3) × (m' ≡ (missing m.0 st.word n, m.1)) × IsOthers m.0)

  -- the block is at home again
  abbrev pub returns_block : Step (SlotValue R P S) → SeatNow T R P S → ℕ → SeatNow T R P S → Type 0
  returns_block st m n m' = m' ≡ (without_block m.0 st.word n, rest m.1)
