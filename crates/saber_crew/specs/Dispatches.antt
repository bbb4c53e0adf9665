-- What the first seat has filled.
use Rattle.std.specs.Prelude.{◌≡◌, ◌^◌, ◌<◌, ◌≤◌, ℕ, ◌+◌, ◌-◌, Bool, true, false, length, slice_index, Option, Some, None}
use Rattle.saber_ring.specs.declared.view.View.{View}
use Rattle.saber_ring.specs.declared.view.Lead.{Lead}
use Rattle.saber_ring.specs.declared.frees.Frees.{Frees}
use Rattle.saber_ring.specs.Plays.{more_filled}
use Rattle.saber_ring.specs.Shows.{first_of_task}
use Rattle.saber_crew.specs.declared.dispatch.Dispatched.{Dispatched}
use Rattle.saber_crew.specs.declared.dispatch.Over.TheVariants.{AllGiven, Stopped}

module _ {T R : Type 0} (filled : T → R → T) where
  -- one task more was filled, or none
  abbrev pub Puts : R → Bool → Option (Lead T) → Option (Lead T) → Type 0
  Puts rows true old new = (l : Lead T) × (old ≡ Some l) × (new ≡ Some (more_filled l (filled l.told rows)))
  Puts rows false old new = new ≡ old

module _ {T : Type 0} (is_told : T → ℕ → Type 0) (upto : T → ℕ → T) (given : T → ℕ → Type 0) where
  -- no task was filled, and none was given
  abbrev pub BeginsDispatch : Option (Lead T) → Type 0
  BeginsDispatch None = ⊥
  BeginsDispatch (Some l) = (l.filled ≡ 0) × is_told l.told 0 × given l.told 0

  -- the d tasks that were given are filled; the count of other seats and the base data stay
  abbrev pub AllDispatched : ℕ → Option (Lead T) → Option (Lead T) → Type 0
  AllDispatched d (Some l) (Some m) = (m.filled ≡ d) × (m.out ≡ l.out) × is_told m.told d × (upto m.told 0 ≡ upto l.told 0) × given m.told d
  AllDispatched d _ _ = ⊥

  module _ (ended : Type 0) where
    -- Tasks were given, over these base data, and the first of them have such data: as many as were filled, and all where the supply
    -- was over.
    pub record AreFirst (base : T) (dispatched : Dispatched) (front : T) : Type 0 where
      pub told : T
      pub count : ℕ
      pub is_given : given told count
      pub known : is_told told count
      pub base_is : upto told 0 ≡ base
      pub data_is : front ≡ upto told dispatched.tasks
      pub few : dispatched.tasks ≤ count
      pub all : dispatched.over ≡ AllGiven → (dispatched.tasks ≡ count) × ended

    -- the first of the tasks that were given are filled; the count of other seats stays
    abbrev pub DispatchedTo : Dispatched → Option (Lead T) → Option (Lead T) → Type 0
    DispatchedTo dispatched (Some l) (Some m) = (m.filled ≡ dispatched.tasks) × (m.out ≡ l.out) × is_told m.told dispatched.tasks × AreFirst (upto l.told 0) dispatched m.told
    DispatchedTo dispatched _ _ = ⊥

    -- So it ended: the fixed data stay, the first tasks are filled, a stop that ended it was seen, and so many helpers were asked for.
    pub record EndsDispatch (v w : View T) (helpers : ℕ) (dispatched : Dispatched) : Type 0 where
      pub base : w.base ≡ v.base
      pub filled : DispatchedTo dispatched v.lead w.lead
      pub few : dispatched.tasks ≤ 2 ^ 42
      pub stops : dispatched.over ≡ Stopped → w.stopped ≡ true
      pub asked : dispatched.helpers ≡ helpers

module _ {T : Type 0} (upto : T → ℕ → T) (first : T → ℕ → ℕ) where
  -- the list tells the first block that each task needs, from its first one to the n-th
  abbrev pub AreFrees : ℕ → Frees → Option (Lead T) → Type 0
  AreFrees n frees None = ⊥
  AreFrees n frees (Some l) =
      (frees.base + length frees.list.items ≡ n)
      × ((k : ℕ) → frees.base ≤ k → k < n → slice_index frees.list.items (k - frees.base) ≡ first_of_task upto first l.told k)
