-- How the list of the first blocks that tasks need goes on.
use Rattle.std.specs.Prelude.{◌≡◌, ℕ, ◌+◌, ◌-◌, [], ◌∷◌, ◌++◌, drop}
use Rattle.saber_ring.specs.declared.frees.Frees.{Frees}

-- it tells of one task more, and of none below this one any longer
abbrev pub IsSlid : ℕ → ℕ → Frees → Frees → Type 0
IsSlid next from old new =
    (new.base ≡ old.base + (from - old.base)) × (new.list.items ≡ drop (from - old.base) (old.list.items ++ next ∷ []))

-- it is as it was
abbrev pub IsSameList : Frees → Frees → Type 0
IsSameList old new = (new.base ≡ old.base) × (new.list.items ≡ old.list.items)
