-- What a seat's entries grow by.
use Rattle.std.specs.Prelude.{◌≡◌, ℕ, Bool, true, false, ◌+◌, ◌==◌, ◌⊎◌, if◌then◌else◌, List, ◌++◌, Option, Some, None}
use Rattle.saber_ring.specs.declared.view.View.{View}
use Rattle.saber_ring.specs.declared.view.HeldTask.{HeldTask}
use Rattle.saber_ring.specs.declared.view.Entry.{Entry}
use Rattle.saber_ring.specs.declared.view.Entry.TheVariants.{Claim, Deposit, Take, Give}
use Rattle.saber_ring.specs.Shows.{times}

-- 1 for the task of the seat's job
abbrev pub in_hand : {T : Type 0} → Option (HeldTask T) → ℕ → ℕ
in_hand None t = 0
in_hand (Some x) t = if t == x.task then 1 else 0

-- each claim has its deposit, with the mark or not; a job that was there before is deposited too, and one that is there now isn't yet
abbrev pub IsKept : {T : Type 0} → Option (HeldTask T) → Option (HeldTask T) → List Entry → Type 0
IsKept job job' more = (t : ℕ) → in_hand job t + times (Claim t) more ≡ times (Deposit t false) more + times (Deposit t true) more + in_hand job' t

-- each take has its give
abbrev pub IsEven : List Entry → Type 0
IsEven more = (t : ℕ) → times (Take t) more ≡ times (Give t) more

-- each take has its give, but for one
abbrev pub IsStop : List Entry → Type 0
IsStop more = (k : ℕ) × ((t : ℕ) → times (Take t) more ≡ times (Give t) more + (if t == k then 1 else 0))

-- entries came to the end; a take has no give only where the stage is stopped
abbrev pub Grows : {T : Type 0} → View T → View T → Bool → Type 0
Grows v w stopped = (more : List Entry) × (w.own ≡ v.own ++ more) × IsKept v.job w.job more × (IsEven more ⊎ ((stopped ≡ true) × IsStop more))
