-- What is seen of the first seat as it fills the ring, and what is so between its calls.
use Rattle.std.specs.Prelude.{◌≡◌, ◌^◌, ◌<◌, ◌≤◌, ℕ}
use Rattle.atomic_table.specs.Seated.{TableId}
use Rattle.saber_ring.specs.declared.view.View.{View}
use Rattle.saber_ring.specs.declared.seat.Seat.{Seat}
use Rattle.saber_ring.specs.declared.ring.Ring.{Ring}
use Rattle.saber_ring.specs.declared.frees.Frees.{Frees}
use Rattle.saber_ring.specs.Words.{view, table, cells}
use Rattle.saber_ring.specs.Calls.{FillsNext, Covers}
use Rattle.saber_workers.specs.declared.hand.Hand.{Hand}
use Rattle.saber_workers.specs.Seats.{IsReady, OfBase, WorksOn}
use Rattle.saber_workers.specs.Hands.{IsHandOf}

-- the ring's table and how many cells it has, and what the seat knows
pub record AtRing (T : Type 0) : Type 0 where
  pub table : TableId
  pub size : ℕ
  pub seat : View T

module _ {T : Type 0} (upto : T → ℕ → T) (first : T → ℕ → ℕ) (suits : T → Type 0) where
  -- The seat is of the ring, without the turn, and with no block out; its fixed data suit, and its job is the one in hand.
  pub record IsAtWork {W D R P S : Type 0} {g : _} (has_blocks : T → ℕ → ℕ → D → Type 0) (ring : Ring W R P S T) (seat : Seat W R P S T g) (hand : Hand W D R P S T g) : Type 0 where
    pub ready : IsReady ring seat
    pub base : OfBase suits (view seat).base
    pub in_hand : IsHandOf upto first suits has_blocks (view seat).job hand

-- a seat at a ring
abbrev pub seen_at : {W R P S T : Type 0} {g : _} → Ring W R P S T → Seat W R P S T g → AtRing T
seen_at ring s = record { table = table s; size = cells ring; seat = view s }

module _ {T : Type 0} (v w : AtRing T) where
  pub record SameRing : Type 0 where
    pub table : w.table ≡ v.table
    pub size : w.size ≡ v.size

  -- it took some steps more, or none, and filled nothing
  pub record GoesOn : Type 0 where
    pub same : SameRing
    pub works : WorksOn v.seat w.seat

  -- while it fills, it keeps the fixed data, and what it saw behind the stage stays behind it
  pub record FillsOn : Type 0 where
    pub same : SameRing
    pub base : w.seat.base ≡ v.seat.base
    pub seen : v.seat.seen ≤ w.seat.seen

module _ {T R : Type 0} (is_told : T → ℕ → Type 0) (filled : T → R → T) (upto : T → ℕ → T) (first : T → ℕ → ℕ) (is_rows : T → ℕ → R → Type 0) where
  -- these are the rows of the next task, and the list tells the first block that each task from those assembled on needs
  pub record CanFill (t : ℕ) (rows : R) (frees : Frees) (v : View T) : Type 0 where
    pub next : FillsNext is_told filled is_rows t rows v.lead
    pub below : t < 2 ^ 42
    pub covered : Covers upto first t frees v.seen v.lead
