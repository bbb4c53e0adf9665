-- Which shape a plan of one stream has.
use Rattle.std.proofs.Common.{◌≡◌, List, [], ◌∷◌, length, subst, arith}
use Rattle.saber_plan.specs.declared.windows.Stream.{Stream}
use Rattle.saber_plan.specs.declared.plans.Shape.{Shape}
use Rattle.saber_plan.specs.declared.plans.Shape.TheVariants.{Join}
use Rattle.saber_plan.specs.Checked.{StreamsFit}

two_streams : (streams : List Stream) → StreamsFit Join streams → length streams ≡ 1 → ⊥
two_streams [] fits one = fits
two_streams (s ∷ []) fits one = fits
two_streams (s ∷ t ∷ []) fits one = let no = one in omega arith
two_streams (s ∷ t ∷ u ∷ more) fits one = fits

-- no join
pub no_join : (shape : Shape) (streams : List Stream) → shape ≡ Join → StreamsFit shape streams → length streams ≡ 1 → ⊥
no_join shape streams is fits one = two_streams streams (subst (λ z. StreamsFit z streams) is fits) one
