-- How a block is filled, on plain seats.
use Rattle.std.specs.Prelude.{◌≡◌, ℕ, ◌+◌, ◌*◌, ◌%◌, ◌<◌, Option, Some, None}
use Rattle.atomic_table.specs.Table.{Me}
use Rattle.saber_ring.specs.declared.view.SlotValue.{SlotValue}
use Rattle.saber_ring.specs.declared.view.FillState.TheVariants.{Waiting}
use Rattle.saber_ring.specs.declared.view.Lead.{Lead}
use Rattle.saber_ring.specs.declared.view.View.{View}
use Rattle.saber_ring.specs.Shows.{first_of_task}
use Rattle.saber_ring.specs.Plays.{led, begun, stored, word_before}

module _ {T R : Type 0} (is_told : T → ℕ → Type 0) (upto : T → ℕ → T) (first : T → ℕ → ℕ) (filled : T → R → T)
    (is_rows : T → ℕ → R → Type 0) (size t : ℕ) (rows : R) (seen : ℕ) where
  -- these are the rows of the next task, and no task that isn't behind those seen needs what lies at the place of its block
  abbrev pub MayFill : Option (Lead T) → Type 0
  MayFill None = ⊥
  MayFill (Some l) =
      (l.filled ≡ t) × (l.fill ≡ Waiting) × is_rows (filled l.told rows) t rows × is_told (filled l.told rows) (t + 1)
      × (t < first_of_task upto first l.told seen + size)

module _ {T R P S : Type 0} (filled : T → R → T) (size t : ℕ) (rows : R) (m m' : Me (SlotValue R P S) (View T)) where
  -- the block is at home with the rows, and the task not yet ready
  abbrev pub IsPut : Type 0
  IsPut =
      (l : Lead T) × (m.0.lead ≡ Some l)
      × (m' ≡ (led (led m.0 (t % size + 1 + size) (word_before size t) (begun l)) (t % size + 1 + size) (4 * t + 2) (stored l (filled l.told rows)), m.1))
