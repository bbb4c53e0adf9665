-- A cutter that serves another plan.
use Rattle.std.proofs.Common.{◌≢◌, ℕ, []}
use Rattle.std.specs.Prelude.{Option, Some, None}
use Rattle.saber_plan.specs.declared.plans.Shape.TheVariants.{Join}
use Rattle.saber_plan.specs.Trees.{Tree}
use Rattle.saber_dispatch.specs.declared.lasts.Lasts.{Lasts}
use Rattle.saber_dispatch.specs.Cutting.{LooksBack}

-- what tells how far back tasks look is nothing for both
pub back_alone : (q p : Tree) (n : ℕ) (l : Option Lasts) → (q.shape ≢ Join) × (p.shape ≢ Join) → LooksBack q n [] 0 l → LooksBack p n [] 0 l
back_alone q p n None alone back = alone.1
back_alone q p n (Some l) alone back = absurd (alone.0 back.join)
