use Rattle.std.proofs.Common.{ℕ, ◌<◌}
use Rattle.saber_ring.specs.Words.{view}
use Rattle.saber_workers.specs.Seats.{IsIdle, WorksOn}
use Rattle.saber_workers.specs.Lasts.{IsClaimed}
use Rattle.saber_workers.proofs.bench.Bench.claim_all.Given as goal

abbrev pub invariant-loop-t : goal.invariant-loop-t
invariant-loop-t g l = IsIdle l.self.ring.now l.seat × WorksOn (view l.fn.seat) (view l.seat) × ((u : ℕ) → u < l.t → IsClaimed u (view l.fn.seat).lead (view l.seat).own)
