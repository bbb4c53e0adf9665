-- Rows in order of time.
use Rattle.std.specs.Prelude.{◌≡◌, ℕ, min, List, [], ◌∷◌, Option, Some, None, false}
use Rattle.saber_plan.specs.declared.rows.Row.{Row}
use Rattle.saber_plan.specs.Rows.{stamp, falls}
use Rattle.saber_rows.specs.declared.waiting.Rank.{Rank}

-- a row stands under its timestamp
abbrev pub IsRanked : Rank × Row → Type 0
IsRanked e = e.0.stamp ≡ stamp e.1.values

-- rows in order of time, none of them before this timestamp
abbrev pub InTime : Option ℕ → List Row → Type 0
InTime last [] = Unit {0}
InTime last (x ∷ xs) = (falls last x.values ≡ false) × InTime (Some (stamp x.values)) xs

-- the timestamp of the first
abbrev pub first_stamp : List Row → Option ℕ
first_stamp [] = None
first_stamp (x ∷ xs) = Some (stamp x.values)

-- the least timestamp of rows in order of time, with one more
abbrev pub least_of : List Row → ℕ → ℕ
least_of [] t = t
least_of (x ∷ xs) t = min (stamp x.values) t
