-- What the last seat knows of a ring.
use Rattle.std.specs.Prelude.{slice_index_or, ◌≡◌, ℕ, Bool, true, false, ◌+◌, ◌<◌, ◌≤◌, List, Option, Some, None}
use lib.ListN.{get_elem?}
use mathlib.Core.Option.{some}
use Rattle.saber_ring.specs.declared.view.Lead.{Lead}
use Rattle.saber_ring.specs.declared.view.SlotValue.{SlotValue}
use Rattle.saber_ring.specs.declared.view.SlotValue.TheVariants.{Stage}
use Rattle.saber_ring.specs.declared.view.View.{View}
use Rattle.saber_ring.specs.declared.view.Entry.{Entry}
use Rattle.saber_ring.specs.declared.view.Entry.TheVariants.{Claim, Deposit, Take, Give}
use Rattle.saber_ring.specs.Shows.{times, extra}
use Rattle.saber_ring.specs.Plays.{Leaves}

-- the first seat, with no other
abbrev pub IsLast : {T : Type 0} → Option (Lead T) → Type 0
IsLast None = ⊥
IsLast (Some l) = l.out ≡ 0

-- each task below k was claimed, deposited with a piece, taken and given once
abbrev pub EachOnce : ℕ → List Entry → Type 0
EachOnce k own =
    (t : ℕ) → t < k → (times (Claim t) own ≡ 1) × (times (Deposit t false) own ≡ 1) × (times (Take t) own ≡ 1)
    × (times (Give t) own ≡ 1) × (times (Deposit t true) own ≡ 0)

module _ {R P S : Type 0} where
  -- any value but a stage
  abbrev pub NoStage : SlotValue R P S → Type 0
  NoStage (Stage s) = ⊥
  NoStage _ = Unit {0}

  -- of n slots, all but the first hold no stage
  abbrev pub NoStages : List (SlotValue R P S) → ℕ → Type 0
  NoStages values n = (i : ℕ) (x : SlotValue R P S) → 0 < i → i < n → get_elem? values i ≡ some x → NoStage x

-- of n slots, those before place i are empty, and the others are full
abbrev pub IsEmptied : ℕ → List Bool → ℕ → Type 0
IsEmptied i full n = ((k : ℕ) → k < i → k < n → slice_index_or full k false ≡ false) × ((k : ℕ) → i ≤ k → k < n → slice_index_or full k false ≡ true)

module _ {T S : Type 0} (upto : T → ℕ → T) (is_stage : T → ℕ → Bool → S → Type 0) (v : View T) (stage : S) where
  -- the stage has k tasks behind it, no fewer than the seat saw, and is stopped if the seat saw it so
  abbrev pub Finishes : Option (Lead T) → Type 0
  Finishes None = ⊥
  Finishes (Some l) =
      (k : ℕ) × (x : Bool) × is_stage (upto l.told (k + extra x)) k x stage × EachOnce k v.own × (k + extra x ≤ l.filled)
      × Leaves v.own k x × (v.seen ≤ k) × (v.stopped ≡ true → x ≡ true)
