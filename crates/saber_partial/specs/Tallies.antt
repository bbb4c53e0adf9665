-- What contracts say of tallies and of their maps.
use Rattle.std.specs.Prelude.{◌≡◌, ℕ, ◌+◌, ◌*◌, ◌^◌, ◌≤◌, List, length, map, nat_abs, ℤ, Some}
use Rattle.std.specs.List.{AllByRecursion}
use Rattle.std.specs.FinMap.{get, insert}
use Rattle.saber_plan.specs.declared.plans.Fold.{Fold}
use Rattle.saber_plan.specs.declared.plans.Fold.TheVariants.{Sum, Min, Max, First}
use Rattle.saber_plan.specs.Parts.{Part, Number, Numbers, join_numbers}
use Rattle.saber_plan.specs.Merges.{joined_value}

-- how aggregates go on, in their order
abbrev pub folds_of : List Number → List Fold
folds_of vs = map (λ v. v.fold) vs

-- a sum is at most so great, without its sign; what else is gathered is a number of one row
abbrev pub SumWithin : ℕ → Fold → ℤ → Type 0
SumWithin n Sum z = nat_abs z ≤ n
SumWithin n Min z = Unit {0}
SumWithin n Max z = Unit {0}
SumWithin n First z = Unit {0}

-- At least one row and at most 2^40, each of which added at most 2^86 to each sum (this project's rule).
pub record IsTally (a : Numbers) : Type 0 where
  pub some : 1 ≤ a.count
  pub few : a.count ≤ 2 ^ 40
  pub small : AllByRecursion (λ v. SumWithin (a.count * 2 ^ 86) v.fold v.value) a.values

-- Numbers of one plan, of at most 2^40 rows together.
pub record CanJoin (a b : Numbers) : Type 0 where
  pub counts : a.count + b.count ≤ 2 ^ 40
  pub folds : folds_of a.values ≡ folds_of b.values

-- Keys of as many columns, and aggregates of one plan.
pub record Alike (j k : List ℤ) (a b : Numbers) : Type 0 where
  pub keys : length j ≡ length k
  pub folds : folds_of a.values ≡ folds_of b.values

-- Parts of one plan, of at most 2^40 rows together under each key.
pub record CanMerge (m n : Part) : Type 0 where
  pub at : (k : List ℤ) (a b : Numbers) → get m k ≡ Some a → get n k ≡ Some b → CanJoin a b
  pub alike : (j k : List ℤ) (a b : Numbers) → get m j ≡ Some a → get n k ≡ Some b → Alike j k a b

-- a part with the numbers of one row under its key
abbrev pub with_row : Part → List ℤ → Numbers → Part
with_row m k v = insert m k (joined_value join_numbers (get m k) v)

-- what stands under a key can take the numbers in, and all numbers there are like them
pub record FitsAt (m : Part) (k : List ℤ) (v : Numbers) : Type 0 where
  pub at : (a : Numbers) → get m k ≡ Some a → CanJoin a v
  pub alike : (j : List ℤ) (a : Numbers) → get m j ≡ Some a → Alike j k a v
