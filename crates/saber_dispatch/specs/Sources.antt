-- The inputs of a query: sources of row files.
use Rattle.std.specs.Prelude.{◌≤◌, ℕ, List, [], ◌∷◌, Option}
use Rattle.saber_plan.specs.Outputs.{Rose}
use Rattle.saber_plan.specs.declared.rows.Side.{Side}
use Rattle.saber_plan.specs.declared.rows.Side.TheVariants.{Left, Right}
use Rattle.saber_dispatch.specs.declared.inputs.Inputs.{Inputs}
use Rattle.saber_dispatch.specs.declared.inputs.Inputs.TheVariants.{One, Two}

-- what each input has left, where it tells
abbrev pub Lefts : Type 0
Lefts = List (Option (List ℕ))

-- one thing of each input, in order
abbrev pub each_input : {S X : Type 0} → (S → X) → Inputs S → List X
each_input f (One s) = f s ∷ []
each_input f (Two s t) = f s ∷ f t ∷ []

-- the count of faults of a side's input rose
abbrev pub RoseAt : Side → List ℕ → List ℕ → Type 0
RoseAt Left (a ∷ more) (b ∷ others) = Rose a b
RoseAt Right (a ∷ c ∷ more) (b ∷ d ∷ others) = Rose c d
RoseAt _ _ _ = ⊥

-- no count fell, and there are as many
abbrev pub NoneFell : List ℕ → List ℕ → Type 0
NoneFell [] [] = Unit {0}
NoneFell (a ∷ more) (b ∷ others) = (a ≤ b) × NoneFell more others
NoneFell _ _ = ⊥
