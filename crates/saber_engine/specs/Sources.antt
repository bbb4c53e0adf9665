-- The inputs of a run: sources of row files.
use Rattle.std.specs.Prelude.{ℕ, List, [], ◌∷◌, Option, Some, option_map, option_and_then}
use Rattle.saber_plan.specs.declared.rows.Row.{Row}
use Rattle.saber_plan.specs.declared.sizes.Sizes.{Sizes}
use Rattle.saber_plan.specs.Files.{input_of}
use Rattle.saber_plan.specs.Sizes.{limits_of}
use Rattle.saber_plan.specs.Trees.{Tree}
use Rattle.saber_dispatch.specs.declared.inputs.Inputs.{Inputs}
use Rattle.saber_dispatch.specs.declared.inputs.Inputs.TheVariants.{One, Two}
use Rattle.saber_dispatch.specs.Sources.{Lefts}
pub use Rattle.saber_dispatch.specs.Sources.{each_input, RoseAt, NoneFell}
pub use Rattle.saber_dispatch.specs.Leaving.{GaveAll}

-- what all of them have left, where they tell
abbrev pub told_by : {S : Type 0} → (S → Option (List ℕ)) → Inputs S → Option (List (List ℕ))
told_by left (One s) = option_map (λ b. b ∷ []) (left s)
told_by left (Two s t) = option_and_then (λ b. option_map (λ c. b ∷ c ∷ []) (left t)) (left s)

-- the same by what each has left
abbrev pub files_left : Lefts → Option (List (List ℕ))
files_left [] = Some []
files_left (left ∷ more) = option_and_then (λ b. option_map (λ others. b ∷ others) (files_left more)) left

-- the rows of all that inputs have left, where they tell
abbrev pub rows_left : {O : Type 0} → (O → Tree) → Sizes → Lefts → O → Option (List Row)
rows_left plan s lefts operator = option_map (λ files. (input_of (plan operator) (limits_of s) files).rows) (files_left lefts)
