-- Key lists with numbers: each has the number of those that came before it.
use Rattle.std.specs.Prelude.{◌≡◌, ◌<◌, ℕ, suc, List, [], ◌∷◌, length, map, zip, get_or, ℤ, Option, Some, None, if◌then◌else◌}
use Rattle.std.specs.Option.{option_map}
use Rattle.std.specs.Ordering.{eq_by_cmp}
use Rattle.std.specs.FinMap.{FinMap, get, from_entries}
use Rattle.arrayvec.specs.ArrayVec.{ArrayVec}
use Rattle.saber_plan.specs.Answers.{key_cmp}

-- the number of a list, if it came
abbrev pub number_of : List ℤ → List (List ℤ) → Option ℕ
number_of k [] = None
number_of k (l ∷ ls) = if eq_by_cmp key_cmp k l then Some 0 else option_map suc (number_of k ls)

-- what stands at the number of each list, as a map from the lists
abbrev pub by_list : {A : Type 0} → List (List ℤ) → List A → FinMap key_cmp A
by_list ls vs = from_entries {R = key_cmp} (zip ls vs)

-- the lists of arrays
abbrev pub lists_in : List (ArrayVec ℤ) → List (List ℤ)
lists_in vs = map (λ v. v.items) vs

-- the entries of a tree map from such lists, as a map
abbrev pub numbers_in : List (ArrayVec ℤ × ℕ) → FinMap key_cmp ℕ
numbers_in es = from_entries {R = key_cmp} (map (λ e. (e.0.items, e.1)) es)

-- no list stands twice, and the tree has the number of each
pub record IsNumbered (ls : List (List ℤ)) (m : FinMap key_cmp ℕ) : Type 0 where
  pub own : (i : ℕ) → i < length ls → number_of (get_or ls i []) ls ≡ Some i
  pub found : (k : List ℤ) → get m k ≡ number_of k ls
