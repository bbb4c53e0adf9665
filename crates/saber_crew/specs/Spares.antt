-- A seat as a thread has it.
use Rattle.std.specs.Prelude.{◌≡◌, Option, None}
use Rattle.atomic_table.specs.Seated.{TableId}
use Rattle.saber_ring.specs.declared.view.View.{View}
use Rattle.saber_ring.specs.Seats.{joined}
use Rattle.saber_workers.specs.Seats.{IsFree, OfBase}

-- a seat of this table, with these fixed data, without job, turn and block
abbrev pub IsSpare : {T : Type 0} → TableId → View T → TableId → Option T → Type 0
IsSpare of v table base = (of ≡ table) × IsFree v × (v.job ≡ None) × (v.base ≡ base)

-- it stays one, with the data that it has
abbrev pub StaysSpare : {T : Type 0} → TableId → View T → TableId → View T → TableId → Type 0
StaysSpare of v of' v' table = (base : Option _) → IsSpare of v table base → IsSpare of' v' table base

-- it is one for fixed data that suit
abbrev pub CanHelp : {T : Type 0} → (Option T → Type 0) → (T → Type 0) → Type 0
CanHelp spare suits = (base : Option _) × spare base × OfBase suits base

-- another seat, without job, turn and block, was taken in
abbrev pub Rejoins : {T : Type 0} → View T → View T → Type 0
Rejoins v w = (u : View _) × IsFree u × (u.job ≡ None) × (w ≡ joined v u)
