-- Whole lists of events.
use Rattle.std.specs.Prelude.{◌≡◌, ℕ, Bool, true, false, ◌&&◌, if◌then◌else◌, IsTrue, List, [], ◌∷◌, nat_eq}
use Rattle.std.specs.List.{IsDistinct, range_with_len}
use Rattle.saber_core.specs.declared.events.Event.{Event}
use Rattle.saber_core.specs.declared.events.Event.TheVariants.{Fill, Claim, Deposit, Win, Take, Give, Release}
use Rattle.saber_core.specs.Machine.{State, given_count, phase_at, is_taken, has_taken, applies, next}

-- the state after all events
abbrev pub state_after : State → List Event → State
state_after s [] = s
state_after s (e ∷ events) = state_after (next s e) events

-- the task that an event is about: the one that it names, the next to be filled, or, with the turn, the first that isn't given
abbrev pub task_of : State → Event → ℕ
task_of s Fill = s.filled
task_of s (Claim seat task) = task
task_of s (Deposit seat task mark) = task
task_of s (Win seat) = given_count s
task_of s (Take seat) = given_count s
task_of s (Give seat) = given_count s
task_of s (Release seat) = given_count s

-- which events are of a kind
abbrev pub is_claim : Event → Bool
is_claim (Claim seat task) = true
is_claim _ = false

abbrev pub is_deposit : Event → Bool
is_deposit (Deposit seat task mark) = true
is_deposit _ = false

abbrev pub is_take : Event → Bool
is_take (Take seat) = true
is_take _ = false

abbrev pub is_give : Event → Bool
is_give (Give seat) = true
is_give _ = false

-- the tasks of the events of a kind that applied, in order
abbrev pub tasks_of : (Event → Bool) → State → List Event → List ℕ
tasks_of is_kind s [] = []
tasks_of is_kind s (e ∷ events) =
    if is_kind e && applies s e then task_of s e ∷ tasks_of is_kind (next s e) events else tasks_of is_kind (next s e) events

-- the tasks that were claimed, handed in, taken and given
abbrev pub claims : State → List Event → List ℕ
claims = tasks_of is_claim

abbrev pub deposits : State → List Event → List ℕ
deposits = tasks_of is_deposit

abbrev pub takes : State → List Event → List ℕ
takes = tasks_of is_take

abbrev pub gives : State → List Event → List ℕ
gives = tasks_of is_give

-- each task is claimed, deposited and taken at most once, and those given are 0, 1, and so on, in this order
pub record IsOrderly (s : State) (events : List Event) : Type 0 where
  pub claims_once : IsDistinct nat_eq (claims s events)
  pub deposits_once : IsDistinct nat_eq (deposits s events)
  pub takes_once : IsDistinct nat_eq (takes s events)
  pub gives_in_order : gives s events ≡ range_with_len 0 (given_count (state_after s events))

-- the first task that isn't given was taken and stays so, and no task is taken or given any more
pub record StaysStopped (s : State) (events : List Event) : Type 0 where
  pub is_taken : IsTrue (is_taken (phase_at s (given_count s)))
  pub stays_taken : phase_at (state_after s events) (given_count s) ≡ phase_at s (given_count s)
  pub no_take : takes s events ≡ []
  pub no_give : gives s events ≡ []

-- a release by this seat after a take that wasn't given stops the stage, over all later events
abbrev pub StopsForGood : State → ℕ → List Event → Type 0
StopsForGood s seat later = IsTrue (applies s (Release seat)) → IsTrue (has_taken s.turn) → StaysStopped (next s (Release seat)) later
