-- Expressions that are one column alone.
use Rattle.std.specs.Prelude.{◌≡◌, ℕ, List, [], ◌∷◌, false}
use Rattle.saber_plan.specs.declared.rows.Side.{Side}
use Rattle.saber_plan.specs.declared.expressions.Factor.TheVariants.{Column}
use Rattle.saber_plan.specs.declared.expressions.Product.{Product}

-- this one
abbrev pub IsColumn : Side → ℕ → List Product → Type 0
IsColumn s k e = e ≡ record { minus = false; factors = Column s k ∷ [] } ∷ []
