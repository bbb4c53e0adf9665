use Rattle.std.proofs.Common.{◌≡◌, ◌∙◌, ap, subst}
use Rattle.saber_plan.specs.declared.plans.Plan.{Plan}
use Rattle.saber_plan.specs.declared.plans.Shape.TheVariants.{Select}
use Rattle.saber_plan.specs.Trees.{tree_of}
use Rattle.saber_select.specs.Found.{part_of}
use Rattle.saber_select.proofs.Keyed.{parts_merge}
use Rattle.saber_select.proofs.Answering.{neighbors_precede}
use Rattle.saber_select.proofs.assembles.WindowedSelectAssembles.merge.Goals as goal

pub merge-requires : goal.merge-requires
merge-requires c = neighbors_precede (tree_of c.args.self.now) (subst (λ (p : Plan). (tree_of p).shape ≡ Select) c.self.view_is c.self.invariant.1) c.args.into.now c.args.from c.rises.ensures c.rises-2.ensures c.requires

pub returns : goal.returns
returns c =
    ap part_of c.in_ok-merge.ensures
    ∙ parts_merge c.args.into.now c.args.from (neighbors_precede (tree_of c.args.self.now) (subst (λ (p : Plan). (tree_of p).shape ≡ Select) c.self.view_is c.self.invariant.1) c.args.into.now c.args.from c.rises.ensures c.rises-2.ensures c.requires)
