use Rattle.std.proofs.Common.{◌≡◌, ◌-◌, ◌<◌, length}
use Rattle.saber_ring.specs.Opening.{with_empties}
use Rattle.saber_ring.proofs.opening.stage_back.Given as goal

-- what is left are the stage and the first empty slots
abbrev pub invariant-loop-value : goal.invariant-loop-value
invariant-loop-value g l = (stage : _) × (l.slots.items ≡ with_empties (length l.slots.items - 1) stage) × (0 < length l.slots.items) × (l.initial.slots.items ≡ with_empties (length l.initial.slots.items - 1) stage)

abbrev pub decreases-loop-value : goal.decreases-loop-value
decreases-loop-value g l = length l.slots.items
