-- Groups in the order in which their keys came, and their places by key.
use Rattle.std.specs.Prelude.{◌≡◌, ℕ, ◌<◌, ◌≤◌, List, [], length, map, take, get_or, ℤ}
use Rattle.std.specs.List.{AllByRecursion}
use Rattle.saber_plan.specs.Parts.{Part, Numbers}
use Rattle.saber_partial.specs.Sorted.{part_of, Rises}

-- what stands where no entry does
abbrev pub no_entry : List ℤ × Numbers
no_entry = ([], record { count = 0; values = [] })

-- the entries at some places
abbrev pub picked_entries : List ℕ → List (List ℤ × Numbers) → List (List ℤ × Numbers)
picked_entries ps es = map (λ p. get_or es p no_entry) ps

-- the entries by key, whose places the front of a list tells
abbrev pub by_key : List ℕ → List (List ℤ × Numbers) → List (List ℤ × Numbers)
by_key order es = picked_entries (take (length es) order) es

-- their part
abbrev pub young_part : List ℕ → List (List ℤ × Numbers) → Part
young_part order es = part_of (by_key order es)

-- the key of the entry at a place
abbrev pub HasKey : List (List ℤ × Numbers) → List ℤ → ℕ → Type 0
HasKey es k p = (d : List ℤ × Numbers) → (get_or es p d).0 ≡ k

-- the front of a list of 128 tells the place of each entry, and so told their keys rise
pub record IsOrder (order : List ℕ) (es : List (List ℤ × Numbers)) : Type 0 where
  pub long : length order ≡ 128
  pub few : length es ≤ 128
  pub within : AllByRecursion (λ p. p < length es) (take (length es) order)
  pub each : (p : ℕ) → p < length es → (j : ℕ) × (j < length es) × (get_or order j 0 ≡ p)
  pub rises : Rises (by_key order es)
