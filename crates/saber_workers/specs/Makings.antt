-- What the making of a task's piece does to the seat.
use Rattle.std.specs.Prelude.{◌≡◌, ℕ, false, Option, Some, IfSome}
use Rattle.saber_ring.specs.declared.view.View.{View}
use Rattle.saber_ring.specs.Calls.{NotLast}
use Rattle.saber_workers.specs.declared.blocks.LookBack.{LookBack}
use Rattle.saber_workers.specs.declared.blocks.LookBack.TheVariants.{In, Held, NoMemory}
use Rattle.saber_workers.specs.Seats.{WorksOn, IsHeldUp}
use Rattle.saber_workers.specs.Grows.{Grows}
use Rattle.saber_workers.specs.Hands.{HasSoFar}

module _ {T D : Type 0} (upto : T → ℕ → T) (first : T → ℕ → ℕ) (has_blocks : T → ℕ → ℕ → D → Type 0) (size t u : ℕ) (v w : View T) (draft : D) where
  -- The draft of task t has the blocks before u, or those that it had, up to block p: then another seat reads that one. The seat's last step
  -- that was refused is the read, or the one before.
  abbrev pub LooksTo : ℕ → LookBack → Type 0
  LooksTo p In = HasSoFar upto first has_blocks t u draft w.job × (w.missed ≡ v.missed)
  LooksTo p Held = HasSoFar upto first has_blocks t p draft w.job × IsHeldUp size v w (Some p) × NotLast v.lead
  LooksTo p NoMemory = w.missed ≡ v.missed

-- The seat read what its job needs, until the piece was handed in, or until a block that another seat reads. It saw nothing of a stop.
pub record ReadsOn {T : Type 0} (size : ℕ) (v w : View T) (waits : Option ℕ) : Type 0 where
  pub goes : WorksOn v w
  pub grows : Grows v w false
  pub saw : w.stopped ≡ v.stopped
  pub waits_for : IsHeldUp size v w waits
  pub others : IfSome waits (λ u. NotLast v.lead)
