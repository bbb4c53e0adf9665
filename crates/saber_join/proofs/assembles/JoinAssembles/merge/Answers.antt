use Rattle.std.proofs.Common.{◌≡◌, subst}
use Rattle.saber_plan.specs.declared.plans.Plan.{Plan}
use Rattle.saber_plan.specs.declared.plans.Shape.TheVariants.{Join}
use Rattle.saber_plan.specs.Trees.{tree_of}
use Rattle.saber_join.proofs.Parting.{neighbors_apart}
use Rattle.saber_join.proofs.assembles.JoinAssembles.merge.Goals as goal

pub merge-requires : goal.merge-requires
merge-requires c = neighbors_apart (tree_of c.args.self.now) (subst (λ (p : Plan). (tree_of p).shape ≡ Join) c.self.view_is c.self.invariant.1) c.args.into.now c.args.from c.requires
