-- A task of one work that needs no rows but its own, done in one go.
use Rattle.std.specs.Prelude.{◌^◌, ◌<◌, ℕ, Bool, false}
use Rattle.saber_workers.specs.Labors.{GoesOn}
use Rattle.saber_many.specs.Sharing.{RowsAt}

module _ {L T R S : Type 0} (upto : T → ℕ → T) (is_rows : T → ℕ → R → Type 0) (is_stage : T → ℕ → Bool → S → Type 0) (alone : T → Type 0) (suits : L → T → Type 0) where
  -- the stage goes on with all tasks behind it that come before that of these rows
  abbrev pub CanDo : L → S → R → Type 0
  CanDo labor stage own = (told : T) × (t : ℕ) × (t < 2 ^ 42) × suits labor (upto told 0) × RowsAt is_rows alone t told own × is_stage (upto told t) t false stage

  -- so that task is behind it too, or it is stopped
  abbrev pub Does : L → S → R → S → Bool → Type 0
  Does labor old own new goes = (told : T) (t : ℕ) → suits labor (upto told 0) → RowsAt is_rows alone t told own → is_stage (upto told t) t false old → GoesOn is_stage told t new goes
