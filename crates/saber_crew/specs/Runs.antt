-- What a run leaves.
use Rattle.std.specs.Prelude.{◌≡◌, ◌≢◌, ◌≤◌, ℕ, ◌+◌, Bool, false, Option, Some, None, IfSome}
use Rattle.saber_ring.specs.Shows.{extra}
use Rattle.saber_crew.specs.declared.dispatch.Dispatched.{Dispatched}
use Rattle.saber_crew.specs.declared.dispatch.Over.TheVariants.{AllGiven, Stopped}

module _ {T S : Type 0} (is_told : T → ℕ → Type 0) (is_stage : T → ℕ → Bool → S → Type 0) (suits : T → Type 0) (given : T → ℕ → Type 0) (stage : S) where
  -- data are named, those of no task, which suit; the stage runs and has assembled none; and no task was given
  abbrev pub BeginsRun : Option T → Type 0
  BeginsRun None = ⊥
  BeginsRun (Some told) = is_told told 0 × is_stage told 0 false stage × suits told × given told 0

module _ {T S : Type 0} (is_told : T → ℕ → Type 0) (upto : T → ℕ → T) (is_stage : T → ℕ → Bool → S → Type 0) (given : T → ℕ → Type 0) (ended : Type 0) where
  -- So many tasks were given, with data over these base data, and the first of them were filled: all where the supply was over. The first
  -- that were filled are behind the stage, or it stopped at one of them.
  pub record RunsTo (base : T) (stage : S) (dispatched : Dispatched) : Type 0 where
    pub told : T
    pub count : ℕ
    pub is_given : given told count
    pub known : is_told told count
    pub base_is : upto told 0 ≡ base
    pub few : dispatched.tasks ≤ count
    pub all : dispatched.over ≡ AllGiven → (dispatched.tasks ≡ count) × ended
    pub k : ℕ
    pub stopped : Bool
    pub stage_is : is_stage (upto told (k + extra stopped)) k stopped stage
    pub within : k + extra stopped ≤ dispatched.tasks
    pub runs : stopped ≡ false → (k ≡ dispatched.tasks) × (dispatched.over ≢ Stopped)

  -- so it was over the data that are named, if some are
  abbrev pub RunsOver : Option T → S → Dispatched → Type 0
  RunsOver named stage dispatched = IfSome named (λ base. RunsTo base stage dispatched)
