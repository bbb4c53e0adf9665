-- The invariant of the core.
use Rattle.std.specs.Prelude.{◌≡◌, ℕ, Bool, IsTrue, IsFalse, ◌+◌, ◌^◌, ◌≤◌, ◌<◌, length, Some}
use Rattle.saber_core.specs.declared.events.TaskPhase.TheVariants.{Held, Taken}
use Rattle.saber_core.specs.Machine.{State, given_count, phase_at, is_taken, is_holder, has_taken}

-- what is true of each state that events lead to
pub record IsSound (s : State) : Type 0 where
  -- the assembled tasks are among the given ones, these among the filled ones, and no more are filled than there are slots
  pub assembled_given : s.assembled ≤ given_count s
  pub given_filled : given_count s ≤ s.filled
  pub filled_fits : s.filled ≤ given_count s + s.size
  pub filled_limit : s.filled ≤ 2 ^ 42
  -- each task that is filled and not given is in one phase, and no other task is in any
  pub phases_count : given_count s + length s.phases ≡ s.filled
  -- who holds a task is a seat that exists
  pub task_holder : (task seat : ℕ) → phase_at s task ≡ Some (Held seat) → seat < s.seats
  -- who holds the turn is a seat that exists
  pub turn_holder : (seat : ℕ) → IsTrue (is_holder seat s.turn) → seat < s.seats
  -- no task is taken but the first that isn't given
  pub first_taken : (task : ℕ) (mark : Bool) → phase_at s task ≡ Some (Taken mark) → task ≡ given_count s
  -- and it is taken while the holder of the turn has taken it
  pub holder_taken : IsTrue (has_taken s.turn) → IsTrue (is_taken (phase_at s (given_count s)))
  -- where it is taken and no holder has it, the stage was stopped before, and the turn has given nothing since
  pub stopped_gives_none : IsFalse (has_taken s.turn) → IsTrue (is_taken (phase_at s (given_count s))) → given_count s ≡ s.assembled
