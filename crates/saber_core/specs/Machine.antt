-- The machine of tasks and a turn: its state, and the table of what each event does.
-- The table is this project's own rule, after the slots of SABER 2016's result stage.
use Rattle.std.specs.Prelude.{ℕ, Bool, true, false, ◌+◌, ◌-◌, ◌^◌, ◌==◌, ◌&&◌, nat_lt, if◌then◌else◌, List, [], ◌∷◌, ◌++◌, drop, slice_get, slice_set, Option, Some, None, is_none}
use Rattle.saber_core.specs.declared.events.TaskPhase.{TaskPhase}
use Rattle.saber_core.specs.declared.events.TaskPhase.TheVariants.{Ready, Held, Done, Taken}
use Rattle.saber_core.specs.declared.events.Event.{Event}
use Rattle.saber_core.specs.declared.events.Event.TheVariants.{Fill, Claim, Deposit, Win, Take, Give, Release}
use Rattle.saber_core.specs.declared.machine.Holder.{Holder}

-- size: how many tasks may be filled and not given; assembled: how many tasks were given when the turn was last free;
-- filled: how many tasks are filled; turn: who holds it, if anyone; phases: those of the tasks that are filled and not given, in order
pub record State : Type 0 where
  pub size : ℕ
  pub seats : ℕ
  pub assembled : ℕ
  pub filled : ℕ
  pub turn : Option Holder
  pub phases : List TaskPhase

-- no task, and the turn is free
abbrev pub fresh : ℕ → ℕ → State
fresh size seats = record { size = size; seats = seats; assembled = 0; filled = 0; turn = None; phases = [] }

-- how many tasks are given: as the holder of the turn counts them, or all that are assembled where the turn is free
abbrev pub given_of : ℕ → Option Holder → ℕ
given_of assembled None = assembled
given_of assembled (Some holder) = holder.given

-- the same of a state; it is the number of the first task that isn't given
abbrev pub given_count : State → ℕ
given_count s = given_of s.assembled s.turn

-- the phase of a task, where it is filled and not given
abbrev pub phase_at : State → ℕ → Option TaskPhase
phase_at s task = if nat_lt task (given_count s) then None else slice_get s.phases (task - given_count s)

-- filled, and claimed by nobody
abbrev pub is_ready : Option TaskPhase → Bool
is_ready (Some Ready) = true
is_ready _ = false

-- claimed by this seat
abbrev pub is_held_by : ℕ → Option TaskPhase → Bool
is_held_by seat (Some (Held other)) = other == seat
is_held_by seat _ = false

-- handed in, a piece or the mark of want of memory
abbrev pub is_done : Option TaskPhase → Bool
is_done (Some (Done mark)) = true
is_done _ = false

-- taken by a holder of the turn
abbrev pub is_taken : Option TaskPhase → Bool
is_taken (Some (Taken mark)) = true
is_taken _ = false

-- taken with a piece, and not with the mark
abbrev pub is_taken_piece : Option TaskPhase → Bool
is_taken_piece (Some (Taken false)) = true
is_taken_piece _ = false

-- handed in with the mark
abbrev pub is_marked : Option TaskPhase → Bool
is_marked (Some (Done mark)) = mark
is_marked _ = false

-- this seat holds the turn
abbrev pub is_holder : ℕ → Option Holder → Bool
is_holder seat None = false
is_holder seat (Some holder) = holder.seat == seat

-- the holder of the turn has taken a piece or a mark and not given it
abbrev pub has_taken : Option Holder → Bool
has_taken None = false
has_taken (Some holder) = holder.taken

-- the seat that makes an event; a fill names none
abbrev pub seat_of : Event → Option ℕ
seat_of Fill = None
seat_of (Claim seat task) = Some seat
seat_of (Deposit seat task mark) = Some seat
seat_of (Win seat) = Some seat
seat_of (Take seat) = Some seat
seat_of (Give seat) = Some seat
seat_of (Release seat) = Some seat

-- the seat, where there is one, is among so many seats
abbrev pub is_seated : ℕ → Option ℕ → Bool
is_seated seats None = true
is_seated seats (Some seat) = nat_lt seat seats

-- what else an event needs: the first column of the table
abbrev pub is_allowed : State → Event → Bool
is_allowed s Fill = nat_lt s.filled (given_count s + s.size) && nat_lt s.filled (2 ^ 42)
is_allowed s (Claim seat task) = is_ready (phase_at s task)
is_allowed s (Deposit seat task mark) = is_held_by seat (phase_at s task)
is_allowed s (Win seat) = is_none s.turn
is_allowed s (Take seat) = is_holder seat s.turn && is_done (phase_at s (given_count s))
is_allowed s (Give seat) = is_holder seat s.turn && has_taken s.turn && is_taken_piece (phase_at s (given_count s))
is_allowed s (Release seat) = is_holder seat s.turn

-- where an event applies
abbrev pub applies : State → Event → Bool
applies s e = is_seated s.seats (seat_of e) && is_allowed s e

-- the same state, but for the phase of one task
abbrev pub with_phase : State → ℕ → TaskPhase → State
with_phase s task phase = record s { phases = slice_set s.phases (task - given_count s) phase }

-- the state after an event that applies: the second column. The first of the phases is that of the first task that isn't given
abbrev pub outcome : State → Event → State
outcome s Fill = record s { filled = s.filled + 1; phases = s.phases ++ Ready ∷ [] }
outcome s (Claim seat task) = with_phase s task (Held seat)
outcome s (Deposit seat task mark) = with_phase s task (Done mark)
outcome s (Win seat) = record s { turn = Some (record { seat = seat; given = s.assembled; taken = false }) }
outcome s (Take seat) = record s {
  turn = Some (record { seat = seat; given = given_count s; taken = true });
  phases = slice_set s.phases 0 (Taken (is_marked (phase_at s (given_count s))));
}
outcome s (Give seat) = record s { turn = Some (record { seat = seat; given = given_count s + 1; taken = false }); phases = drop 1 s.phases }
outcome s (Release seat) = record s { assembled = given_count s; turn = None }

-- an event that doesn't apply changes nothing
abbrev pub next : State → Event → State
next s e = if applies s e then outcome s e else s
