use Rattle.std.proofs.Common.{◌≡◌, ◌+◌, ◌≤◌, length}
use Rattle.saber_partial.specs.Piles.{piled_part, CanPile}
use Rattle.saber_partial.proofs.piles.settle.Given as goal

abbrev pub invariant-loop-parts : goal.invariant-loop-parts
invariant-loop-parts g l = record {
  same : piled_part l.parts.items ≡ piled_part l.fn.parts.items;
  can : CanPile l.parts.items;
  steps : l.steps + length l.parts.items ≤ l.fn.steps + length l.fn.parts.items;
}

abbrev pub decreases-loop-parts : goal.decreases-loop-parts
decreases-loop-parts g l = length l.parts.items
