-- The tests' own work: numbers that are added up. A task adds its own number and those of the two tasks before it.
use Rattle.std.specs.Prelude.{◌≡◌, ℕ, ◌+◌, ◌-◌, ◌%◌, ◌≤◌, Bool, true, false, List, [], ◌∷◌, ◌++◌, length, take, slice_index, Option, Some, None}
use Rattle.std.proofs.Common.{zero, suc}
use Rattle.saber_ring.specs.declared.frees.Frees.{Frees}
use Rattle.saber_ring.specs.declared.answers.Fill.{Fill}
use Rattle.saber_ring.specs.declared.view.HeldTask.{HeldTask}
use Rattle.saber_ring.specs.declared.view.Lead.{Lead}
use Rattle.saber_ring.specs.declared.view.View.{View}
use Rattle.saber_ring.specs.Plays.{more_filled, without_job}
use Rattle.saber_ring.specs.Calls.{Fills, NeedsBlock, AreRowsOf}

-- the data are the numbers of so many tasks
abbrev pub AreNumbers : List ℕ → ℕ → Type 0
AreNumbers told d = length told ≡ d

-- this is the number of the task
abbrev pub IsNumber : List ℕ → ℕ → ℕ → Type 0
IsNumber told t rows = rows ≡ slice_index told t

-- what a task adds; where there is no such task before it, the number of task 0 stands in its place
abbrev pub adds : List ℕ → ℕ → ℕ
adds told t = slice_index told t + slice_index told (t - 1) + slice_index told (t - 2)

abbrev pub IsSum : List ℕ → ℕ → ℕ → Type 0
IsSum told t piece = piece ≡ adds told t

-- what the first k tasks add
abbrev pub sum_to : List ℕ → ℕ → ℕ
sum_to told zero = 0
sum_to told (suc k) = sum_to told k + adds told k

-- the stage is the sum of what the first k tasks add, stopped or not
abbrev pub IsTotal : List ℕ → ℕ → Bool → ℕ → Type 0
IsTotal told k stopped stage = stage ≡ sum_to told k

-- the stage goes on with one task more, or is stopped with those before it
abbrev pub GoesOnBy : List ℕ → ℕ → ℕ → Bool → Type 0
GoesOnBy told k stage true = IsTotal told (k + 1) false stage
GoesOnBy told k stage false = IsTotal told k true stage

-- the first blocks that tasks 0 to 3 need
abbrev pub AreFirsts : Frees → Type 0
AreFirsts f = (f.base ≡ 0) × (f.list.items ≡ 0 ∷ 0 ∷ 0 ∷ 1 ∷ [])

-- the next task is this one
abbrev pub IsNextTask : ℕ → Option (Lead (List ℕ)) → Type 0
IsNextTask t None = ⊥
IsNextTask t (Some l) = (l.filled ≡ t) × (length l.told ≡ t)

-- what a fill of the tests' ring tells
abbrev pub FillsSo : {W P S : Type 0} → ℕ → ℕ → ℕ → View (List ℕ) → View (List ℕ) → Fill W ℕ P S (List ℕ) → Type 0
FillsSo size t rows v v' result = Fills (λ told k. take k told) (λ told k. k - 2) (λ told r. told ++ r ∷ []) size t rows v v' result

-- the seat has the data, the job and the block that it had
abbrev pub KeepsTask : View (List ℕ) → View (List ℕ) → Type 0
KeepsTask v v' = (v'.lead ≡ v.lead) × (v'.job ≡ v.job) × (v'.block ≡ v.block)

-- the seat is as it was, but for its steps and what it saw and did
abbrev pub Keeps : View (List ℕ) → View (List ℕ) → Type 0
Keeps v v' = (v'.lead ≡ v.lead) × (v'.job ≡ v.job) × (v'.block ≡ v.block) × (v'.turn ≡ v.turn)

-- the task is handed in by one step, with its piece or the mark
abbrev pub HandsIn : ℕ → ℕ → View (List ℕ) → View (List ℕ) → Type 0
HandsIn size t v v' = (mark : Bool) × (w : ℕ) × (v' ≡ without_job v (t % size + 1) w t mark)

-- and has handed its task in
abbrev pub HasWorked : View (List ℕ) → View (List ℕ) → Type 0
HasWorked v v' = (v'.lead ≡ v.lead) × (v'.job ≡ None) × (v'.block ≡ None) × (v'.turn ≡ None)

-- the first seat has filled a task more
abbrev pub HasPut : ℕ → View (List ℕ) → View (List ℕ) → Type 0
HasPut rows v v' =
    (l : Lead (List ℕ)) × (v.lead ≡ Some l) × (v'.lead ≡ Some (more_filled l (l.told ++ rows ∷ [])))
    × (v'.job ≡ v.job) × (v'.block ≡ v.block) × (v'.turn ≡ v.turn)

-- the seat's job is this task, which needs block u
abbrev pub Needs : ℕ → ℕ → Option (HeldTask (List ℕ)) → Type 0
Needs t u job = NeedsBlock (λ (told : List ℕ) k. take k told) (λ told k. k - 2) t u job

-- this was read from block u for the seat's job
abbrev pub WasRead : ℕ → ℕ → Option (HeldTask (List ℕ)) → Type 0
WasRead rows u job = AreRowsOf (λ (told : List ℕ) k. take k told) IsNumber rows job u

-- the stage is the sum of what the first k of the filled tasks add
abbrev pub EndsInSum : ℕ → ℕ → Option (Lead (List ℕ)) → Type 0
EndsInSum stage seen None = ⊥
EndsInSum stage seen (Some l) = (k : ℕ) × (stage ≡ sum_to l.told k) × (seen ≤ k) × (k ≤ l.filled)
