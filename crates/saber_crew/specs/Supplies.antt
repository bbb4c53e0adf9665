-- What a supply of tasks gives.
use Rattle.std.specs.Prelude.{◌<◌, ◌^◌, ℕ, ◌+◌, Result, Ok, Err}
use Rattle.saber_crew.specs.declared.dispatch.Over.{Over}
use Rattle.saber_crew.specs.declared.supply.Supplied.{Supplied}
use Rattle.saber_crew.specs.declared.supply.Supplied.TheVariants as supplied

module _ {T R : Type 0} (is_told : T → ℕ → Type 0) (filled : T → R → T) (is_rows : T → ℕ → R → Type 0) (given : T → ℕ → Type 0) (told : T) (d : ℕ) where
  -- the rows of task d, with which one task more was given; there are never more than 2^42
  abbrev pub GivesRows : R → Type 0
  GivesRows rows = is_rows (filled told rows) d rows × is_told (filled told rows) (d + 1) × given (filled told rows) (d + 1) × (d < 2 ^ 42)

  -- rows, or none: then the tasks that were given stay
  abbrev pub Gives : Supplied R → Type 0
  Gives (supplied.Rows rows) = GivesRows rows
  Gives supplied.Dry = given told d
  Gives supplied.Over = given told d

  -- and where it was asked until rows were there, or none came any more
  abbrev pub GivesAtLast : Result R Over → Type 0
  GivesAtLast (Ok rows) = GivesRows rows
  GivesAtLast (Err over) = given told d

module _ {T R : Type 0} (is_told : T → ℕ → Type 0) (filled : T → R → T) (is_rows : T → ℕ → R → Type 0) (before now : T → ℕ → Type 0) where
  -- the rows of the next task, or none, whatever was given before
  abbrev pub GivesOn : Supplied R → Type 0
  GivesOn supplied = (told : T) (d : ℕ) → before told d → Gives is_told filled is_rows now told d supplied
