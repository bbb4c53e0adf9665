-- How the words of a ring are read.
use Rattle.std.specs.Prelude.{ℕ, ◌+◌, ◌*◌, Bool, nat_lt}
use Rattle.saber_ring.specs.declared.phases.Phase.{Phase}
use Rattle.saber_ring.specs.declared.phases.Phase.TheVariants.{Idle, Filling, Ready, Held, Done, Taken, Marked, Gone}
use Rattle.saber_ring.specs.declared.phases.BlockPhase.{BlockPhase}
use Rattle.saber_ring.specs.declared.phases.BlockPhase.TheVariants as block

-- the word of a cell is eight times the number of its task, and this
abbrev pub phase_number : Phase → ℕ
phase_number Idle = 0
phase_number Filling = 1
phase_number Ready = 2
phase_number Held = 3
phase_number Done = 4
phase_number Taken = 5
phase_number Marked = 6
phase_number Gone = 7

-- the word of a block is four times its number, and this
abbrev pub block_phase_number : BlockPhase → ℕ
block_phase_number block.Empty = 0
block_phase_number block.Filling = 1
block_phase_number block.Home = 2
block_phase_number block.Reading = 3

-- the word of its cell is past the one that shows task t as ready
abbrev pub was_claimed : ℕ → ℕ → Bool
was_claimed t word = nat_lt (8 * t + 2) word
