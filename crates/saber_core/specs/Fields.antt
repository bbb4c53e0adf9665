-- How the fields of a core keep its state.
use Rattle.std.specs.Prelude.{◌≤◌, ◌<◌}
use Rattle.std.specs.VecDeque.{deque_capacity}
use Rattle.saber_core.specs.declared.machine.Core.TheInside.{Inside}
use Rattle.saber_core.specs.Machine.{State}
use Rattle.saber_core.specs.Sound.{IsSound}

abbrev pub state_of : Inside → State
state_of core = record { size = core.size; seats = core.seats; assembled = core.assembled; filled = core.filled; turn = core.turn; phases = core.phases.items }

-- the state is sound, and there is room for the phase of each slot
pub record FieldsFit (core : Inside) : Type 0 where
  pub sound : IsSound (state_of core)
  pub some_slot : 0 < core.size
  pub slot_limit : core.size ≤ 1024
  pub room : core.size ≤ deque_capacity core.phases
