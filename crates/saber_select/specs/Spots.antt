-- Rows found, by where their values stand among those of all.
use Rattle.std.specs.Prelude.{◌≤◌, ℕ, ℤ, List, map, slice_range}
use Rattle.std.specs.List.{AllByRecursion}
use Rattle.saber_select.specs.declared.picked.Spot.{Spot}
use Rattle.saber_select.specs.Found.{Found}

-- the row of a spot
abbrev pub found_at : List ℤ → Spot → Found
found_at numbers s = (s.place, slice_range numbers s.start s.end)

abbrev pub found_in : List ℤ → List Spot → List Found
found_in numbers spots = map (found_at numbers) spots

-- a spot among the first so many numbers
pub record IsWithin (n : ℕ) (s : Spot) : Type 0 where
  pub rises : s.start ≤ s.end
  pub within : s.end ≤ n

abbrev pub AreWithin : ℕ → List Spot → Type 0
AreWithin n spots = AllByRecursion (IsWithin n) spots
