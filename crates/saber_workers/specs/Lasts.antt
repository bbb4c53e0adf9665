-- What the last seat knows of the tasks.
use Rattle.std.specs.Prelude.{◌≡◌, ◌≢◌, ℕ, ◌<◌, ◌≤◌, List, Option, Some, None}
use Rattle.saber_ring.specs.declared.view.Lead.{Lead}
use Rattle.saber_ring.specs.declared.view.View.{View}
use Rattle.saber_ring.specs.declared.view.Entry.{Entry}
use Rattle.saber_ring.specs.declared.view.Entry.TheVariants.{Claim, Give}
use Rattle.saber_ring.specs.Shows.{times}

-- each of the first k tasks was given
abbrev pub GaveAll : ℕ → List Entry → Type 0
GaveAll k own = (t : ℕ) → t < k → times (Give t) own ≢ 0

-- where no other seat is out, this task is claimed if it was filled
abbrev pub IsClaimed : {T : Type 0} → ℕ → Option (Lead T) → List Entry → Type 0
IsClaimed t lead own = (l : Lead _) → lead ≡ Some l → l.out ≡ 0 → t < l.filled → times (Claim t) own ≢ 0

-- the last seat, without a job, has not claimed this task
abbrev pub NotClaimed : {T : Type 0} → ℕ → View T → List Entry → Type 0
NotClaimed k v own = (l : Lead _) → v.lead ≡ Some l → l.out ≡ 0 → v.job ≡ None → times (Claim k) own ≡ 0

-- the last seat, without a job, gave some first tasks, and has not claimed the next
abbrev pub LeavesNone : {T : Type 0} → View T → List Entry → Type 0
LeavesNone v own = (l : Lead _) → v.lead ≡ Some l → l.out ≡ 0 → v.job ≡ None → (k : ℕ) × GaveAll k own × (times (Claim k) own ≡ 0)

-- so many tasks were filled
abbrev pub HasFilled : {T : Type 0} → ℕ → Option (Lead T) → Type 0
HasFilled tasks lead = (l : Lead _) → lead ≡ Some l → tasks ≤ l.filled
