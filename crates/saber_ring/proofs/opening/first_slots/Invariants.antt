use Rattle.std.proofs.Common.{◌≡◌, ◌+◌, ◌*◌, ◌≤◌, vec_len}
use Rattle.std.specs.Prelude.{vec_capacity}
use Rattle.saber_ring.specs.Opening.{with_empties}
use Rattle.saber_ring.proofs.opening.first_slots.Given as goal

abbrev pub invariant-loop : goal.invariant-loop
invariant-loop g l = (l.slots.items ≡ with_empties l.counter l.fn.stage) × (vec_len l.slots ≡ l.counter + 1) × (l.values + 1 ≤ vec_capacity l.slots) × (l.values ≡ 2 * l.fn.size)
