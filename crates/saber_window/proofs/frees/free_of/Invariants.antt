use Rattle.std.proofs.Common.{◌≡◌, ◌+◌, drop}
use Rattle.saber_plan.specs.Needs.{free_of}
use Rattle.saber_window.proofs.frees.free_of.Given as goal

abbrev pub invariant-loop-i : goal.invariant-loop-i
invariant-loop-i l = free_of l.first l.lasts.items l.closed ≡ free_of (l.first + l.i) (drop l.i l.lasts.items) l.closed
