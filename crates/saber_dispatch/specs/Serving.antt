-- Plans that one cutter serves.
use Rattle.std.specs.Prelude.{◌≡◌, ◌≢◌}
use Rattle.saber_plan.specs.declared.plans.Shape.TheVariants.{Join}
use Rattle.saber_plan.specs.declared.sizes.Sizes.{Sizes}
use Rattle.saber_plan.specs.Sizes.{limits_of}
use Rattle.saber_plan.specs.Trees.{Tree}
use Rattle.saber_dispatch.specs.Cutting.{end_counts, fresh}

-- Two plans that join no streams, whose rows are read alike, and for both of which the input's end is a task, or for none.
pub record AreCutAlike (s : Sizes) (q p : Tree) : Type 0 where
  pub reader : fresh q (limits_of s) ≡ fresh p (limits_of s)
  pub ends : end_counts q s ≡ end_counts p s
  pub alone : (q.shape ≢ Join) × (p.shape ≢ Join)
